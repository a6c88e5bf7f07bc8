-- How many aliases a reply has.
use Rattle.std.proofs.Common.{◌≡◌, ◌≤◌, Bool, true, false, cond, List, [], ◌∷◌, length, refl, arith}
use Rattle.std.specs.Prelude.{Option, Some, None, IsSome, MatchOption, ◌<◌, filter}
use Rattle.ras_module.specs.declared.alias.Alias.{Alias}

pub length-filter : (p : Alias → Bool) (xs : List Alias) → length (filter p xs) ≤ length xs
length-filter p [] = omega arith
length-filter p (x ∷ xs) = cases (p x) (length-filter p xs) where
  cases : (b : Bool) → length (filter p xs) ≤ length xs
      → length (cond b (x ∷ filter p xs) (filter p xs)) ≤ length (x ∷ xs)
  cases true h = omega arith
  cases false h = omega arith

-- no more than 32 aliases go into a reply
pub fits : (o : Option (List Alias)) (list : List Alias)
    → MatchOption o (32 < length list) (λ few. (few ≡ list) × (length list ≤ 32))
    → length list ≤ 32 → IsSome o
fits None list h bound = absurd (omega (arith, h))
fits (Some few) list h bound = refl
