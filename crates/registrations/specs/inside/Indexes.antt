-- Rows that stand at places, and an index to them.
use Rattle.std.specs.Prelude.{◌≡◌, ℕ, Option, Some}
use Rattle.std.specs.Option.{option_map}

-- the index leads from this part of each row to the row's place, and nowhere else
pub record IsIndexOf {A X : Type 0} (part : X → A) (at : ℕ → Option X) (index : A → Option ℕ)
    : Type 0 where
  pub leads : (a : A) (i : ℕ) → index a ≡ Some i → option_map part (at i) ≡ Some a
  pub listed : (i : ℕ) (r : X) → at i ≡ Some r → index (part r) ≡ Some i
