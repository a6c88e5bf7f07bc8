-- A list of one item.
use Rattle.std.proofs.Common.{◌≡◌, ℕ, List, [], ◌∷◌, ◌++◌, length, Some, slice_get, get_or}
use Rattle.std.proofs.Common.{sym, ◌∙◌, ap, arith, length-append}
use Rattle.std.proofs.lemmas.List.{get_or_push}
use Rattle.std.proofs.lemmas.Option.{slice_get_read}

-- what stands last in it stands first
pub slice_get-only : {T : Type 0} (items rest : List T) (last : T) → items ≡ rest ++ last ∷ []
    → length items ≡ 1 → slice_get items 0 ≡ Some last
slice_get-only items rest last is one =
    let more = length-append rest (last ∷ []) in
    let none_left : length rest ≡ 0 = omega (arith, one, ap length is, more) in
    let first = ap (λ xs. get_or xs 0 last) is ∙ get_or_push rest last last 0 none_left in
    slice_get_read items 1 0 last (sym one) (omega arith) (sym first)
