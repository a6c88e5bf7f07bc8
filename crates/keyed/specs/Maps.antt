-- What a change of one row does to a finite map, and sums over finite maps.
use Rattle.std.specs.Prelude.{◌≡◌, ◌≢◌, ℕ, Bool, Option, Some, None, filter}
use Rattle.std.specs.List.{sum_by}
use Rattle.std.specs.Option.{option_map}
use Rattle.std.specs.declared.cmp.Ordering.{Ordering}
use Rattle.std.specs.FinMap.{FinMap, get, insert, values, entries, from_entries}

module _ {K V : Type 0} {R : K → K → Ordering} where
  abbrev pub put_if : FinMap R V → K → Option V → FinMap R V
  put_if m k None = m
  put_if m k (Some v) = insert m k v

  -- the value under this key is changed, and no other
  abbrev pub update : FinMap R V → K → (V → V) → FinMap R V
  update m k f = put_if m k (option_map f (get m k))

  -- the entries whose values pass a test
  abbrev pub retain_values : FinMap R V → (V → Bool) → FinMap R V
  retain_values m test = from_entries (filter (λ e. test e.1) (entries m))

  -- the sum of this figure over all values
  abbrev pub total : (V → ℕ) → FinMap R V → ℕ
  total figure m = sum_by figure (values m)

-- after a change a look-up at `a` returns `answer`, and at every other key what it returned before
pub record Changed {A B : Type 0} (before after : A → Option B) (a : A) (answer : Option B)
    : Type 0 where
  pub here : after a ≡ answer
  pub others : (b : A) → b ≢ a → after b ≡ before b
