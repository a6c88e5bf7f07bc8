-- Rows that stand at places, as in a `Vec`, and the finite map that they make.
use Rattle.std.specs.Prelude.{◌≡◌, ℕ, List, map, Option, Some, slice_get}
use Rattle.std.specs.Option.{IsSomeAnd}
use Rattle.std.specs.declared.cmp.Ordering.{Ordering}
use Rattle.std.specs.FinMap.{FinMap, from_entries}

-- these rows as pairs of a key and a value
abbrev pub entries_of : {K V X : Type 0} → (X → K) → (X → V) → List X → List (K × V)
entries_of {K} {V} key value rows = map {B = K × V} (λ r. (key r, value r)) rows

-- the map of these rows
abbrev pub map_of : {K V X : Type 0} {R : K → K → Ordering}
    → (X → K) → (X → V) → List X → FinMap R V
map_of key value rows = from_entries (entries_of key value rows)

-- the row at this place of a list, if there is one
abbrev pub row_in : {X : Type 0} → List X → ℕ → Option X
row_in rows i = slice_get rows i

-- no two places have rows that agree in this part
pub record AreApart {A X : Type 0} (part : X → A) (at : ℕ → Option X) : Type 0 where
  pub apart : (i j : ℕ) (r s : X) → at i ≡ Some r → at j ≡ Some s → part r ≡ part s → i ≡ j

-- a row stands at i, and has this key
abbrev pub IsPlaceOf : {K X : Type 0} → (X → K) → K → List X → ℕ → Type 0
IsPlaceOf key k rows i = IsSomeAnd (slice_get rows i) (λ r. key r ≡ k)
