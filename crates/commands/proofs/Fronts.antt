-- If the front of what is left to be read is short, it is all of what is left.
use Rattle.std.proofs.Common.{ℕ, ◌≡◌, ◌≤◌, ◌+◌, ◌++◌, List, [], length, take, min}
use Rattle.std.proofs.Common.{Option, Some, None, IfSome, option_map, arith, rules, ap, ◌∙◌}
use Rattle.std.proofs.lemmas.List.{length-take, take_all}

few_left : (most limit : ℕ) (octets items : List ℕ) → limit ≡ most + 1
    → items ≡ take limit octets → length items ≤ most → length octets ≤ most
few_left most limit octets items next e few =
    let front : length (take limit octets) ≤ most = rw (← e) few in
    let less : length (take limit octets) ≡ min limit (length octets) = length-take limit octets in
    omega (arith, front, less, next)

pub whole_if_short : (most limit : ℕ) (left inner : Option (List ℕ)) (old items : List ℕ)
    → limit ≡ most + 1 → inner ≡ left → old ≡ []
    → IfSome (option_map (take limit) inner) (λ octets. items ≡ old ++ octets)
    → length items ≤ most
    → IfSome left (λ octets. (items ≡ octets) × (length octets ≤ most))
whole_if_short most limit None inner old items next same empty e few = search rules
whole_if_short most limit (Some octets) None old items next same empty e few = absurd (cc same)
whole_if_short most limit (Some octets) (Some others) old items next same empty e few =
    let all : others ≡ octets = cc same in
    let front : items ≡ take limit octets =
    e ∙ ap (λ before. before ++ take limit others) empty ∙ ap (λ left. take limit left) all in
    let short : length octets ≤ most = few_left most limit octets items next front few in
    let more : length octets ≤ limit = omega (arith, short, next) in
    (front ∙ take_all limit octets more, short)
