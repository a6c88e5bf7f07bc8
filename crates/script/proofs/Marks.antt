-- A search for a mark finds the first.
use Rattle.std.proofs.Common.{◌≡◌, ℕ, Bool, true, false, ltb, List, length}
use Rattle.std.proofs.Common.{Option, Some, None, refl, arith}
use Rattle.std.proofs.lemmas.Bool.Decides.{nat_tests}
use Rattle.std.proofs.lemmas.List.Sums.{position_or_len_is}
use Rattle.std.specs.List.{position_or_len}
use Rattle.memchr.specs.Find.{IsFirstByte, is_byte}
use Rattle.value_texts.proofs.Parting.{is_mark, found_in}

fails : (b : Bool) → ¬ (b ≡ true) → b ≡ false
fails true h = absurd (h refl)
fails false h = refl

pub first_found : (mark : ℕ) (text : List ℕ) (found : Option ℕ)
    → IsFirstByte (is_byte mark) text found → found ≡ found_in mark text
first_found mark text None h =
    let at : position_or_len (is_mark mark) text ≡ length text =
    position_or_len_is (is_mark mark) text (length text) 0 (omega arith)
    (λ k below. fails _ (h k (omega arith) below)) (λ below. absurd (omega (arith, below))) in
    let none : ltb (position_or_len (is_mark mark) text) (length text) ≡ false =
    grind (arith, nat_tests) in
    rw none refl
first_found mark text (Some place) h =
    let at : position_or_len (is_mark mark) text ≡ place =
    position_or_len_is (is_mark mark) text place 0 (omega (arith, h.0.high))
    (λ k below. fails _ (h.0.before k (omega arith) below)) (λ below. h.1) in
    let some : ltb (position_or_len (is_mark mark) text) (length text) ≡ true =
    grind (arith, nat_tests, h.0.high) in
    rw (some, at) refl
