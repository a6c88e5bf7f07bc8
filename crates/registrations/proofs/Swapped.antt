-- One member of a list is taken out, and the last takes its place.
use Rattle.std.proofs.Common.{◌≡◌, ◌≢◌, ◌⊎◌, ◌<◌, ◌≤◌, ◌-◌, ℕ, zero, suc, List, [], ◌∷◌, length}
use Rattle.std.proofs.Common.{take}
use Rattle.std.proofs.Common.{refl, sym, ◌∙◌, Some, None, inl, inr, arith, get_or, swap_remove}
use Rattle.std.specs.Prelude.{slice_get}
use Rattle.std.proofs.Math.ListN.{set}
use Rattle.std.proofs.lemmas.List.{length-take}
use Rattle.std.proofs.lemmas.Option.{slice_get-get_or, slice_get_past, slice_get_cases}
use Rattle.keyed.proofs.Rows.{Changed-set}

-- the last member stands in the gap, nothing stands where it was, and all else is as before
pub record IsSwapped {X : Type 0} (old new : List X) (gap last : ℕ) : Type 0 where
  pub here : gap ≢ last → slice_get new gap ≡ slice_get old last
  pub end : slice_get new last ≡ None
  pub others : (i : ℕ) → i ≢ gap → i ≢ last → slice_get new i ≡ slice_get old i

before : {X : Type 0} (xs : List X) (n i : ℕ) → i < n → slice_get (take n xs) i ≡ slice_get xs i
before [] zero i below = refl
before [] (suc n) i below = refl
before (x ∷ xs) zero i below = absurd (omega (arith, below))
before (x ∷ xs) (suc n) zero below = refl
before (x ∷ xs) (suc n) (suc i) below = before xs n i (omega (arith, below))

module _ {X : Type 0} (xs : List X) (i : ℕ) (d : X) (within : i < length xs) where
  abbrev last : ℕ
  last = length xs - 1

  abbrev moved : List X
  moved = set xs i (get_or xs last d)

  past : (j : ℕ) → last ≤ j → slice_get (swap_remove xs i d) j ≡ None
  past j le = slice_get_past (take last moved) j (omega (arith, le, length-take last moved))

  pub IsSwapped-swap_remove : IsSwapped xs (swap_remove xs i d) i (length xs - 1)
  IsSwapped-swap_remove = record {
    here = λ differ. before moved last i (omega (arith, within, differ))
        ∙ ((Changed-set xs i (get_or xs last d) within).here
        ∙ sym (slice_get-get_or xs last d (omega (arith, within))));
    end = past last (omega arith);
    others = λ j not_here not_last. parts j not_here not_last (slice_get_cases xs j).1;
  } where
    parts : (j : ℕ) → j ≢ i → j ≢ last
        → ((x : X) × (j < length xs) × (slice_get xs j ≡ Some x) × (get_or xs j x ≡ x))
        ⊎ ((length xs ≤ j) × (slice_get xs j ≡ None))
        → slice_get (swap_remove xs i d) j ≡ slice_get xs j
    parts j not_here not_last (inl there) =
        before moved last j (omega (arith, there.1, not_last))
        ∙ (Changed-set xs i (get_or xs last d) within).others j not_here
    parts j not_here not_last (inr none) = past j (omega (arith, none.0)) ∙ sym none.1
