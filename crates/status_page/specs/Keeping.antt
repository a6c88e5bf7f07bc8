-- The lowest entries of many.
use Rattle.std.specs.Prelude.{ℕ, ◌≡◌, nat_lt, Bool, List, length, take, Box}
use Rattle.std.specs.BTreeMap.{insert_entry}
use Rattle.std.specs.Global.{Global}
use Rattle.std.specs.declared.cmp.Ordering.{Ordering}

-- An entry was put in, in the place of one with an equal key if there was one; of more entries than
-- `most` the first ones stayed. One went exactly if there were more.
abbrev pub IsKept : {K V : Type 0} → (K → K → Ordering) → ℕ → List (K × Box V Global) → K → V
    → List (K × Box V Global) → Bool → Type 0
IsKept {V = V} cmp most old key value new went =
    (kept : Box V Global) × (kept.value ≡ value)
    × (new ≡ take most (insert_entry cmp old key kept))
    × (went ≡ nat_lt most (length (insert_entry cmp old key kept)))
