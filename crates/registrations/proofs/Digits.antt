-- Numbers in decimal digits.
use Rattle.std.proofs.Common.{◌≡◌, ℕ, suc, ◌+◌, ◌-◌, ◌*◌, ◌^◌, ◌/◌, ◌%◌, ◌<◌, ◌≤◌, List, ◌∷◌}
use Rattle.std.proofs.Common.{length, drop, get_or, refl, sym, ◌∙◌, ap, arith, add-one, zero-mul}
use Rattle.std.proofs.Math.ListN.{set}
use Rattle.std.specs.Prelude.{SomeIff, Option, Some, None, IsSome}
use Rattle.std.proofs.Math.Seq.{drop-cons}
use Rattle.std.proofs.Math.Nat.{pow-succ'}
use Rattle.std.proofs.lemmas.List.{drop-set, length-drop}
use Rattle.registrations.specs.Numbers.{number_of}
use Rattle.ras_module.specs.Texts.{IsText}

one_digit : (r k : ℕ) → (r % 10) * 10 ^ k + (r / 10) * 10 ^ (k + 1) ≡ r * 10 ^ k
one_digit r k =
    let p = 10 ^ k in
    let parts : 10 * (r / 10) + r % 10 ≡ r = omega arith in
    let next : k + 1 ≡ suc k = omega arith in
    let power : 10 ^ (k + 1) ≡ 10 * 10 ^ k = ap (λ m. 10 ^ m) next ∙ pow-succ' 10 k in
    omega (arith, ap (λ x. x * 10 ^ k) parts, ap (λ x. (r / 10) * x) power)

-- one more digit on the left
pub digit_more : (ds : List ℕ) (k r n : ℕ) → length ds ≡ 20 → k < 20
    → number_of (drop (20 - k) ds) + r * 10 ^ k ≡ n
    → number_of (drop (20 - (k + 1)) (set ds (19 - k) (48 + r % 10))) + (r / 10) * 10 ^ (k + 1) ≡ n
digit_more ds k r n len below is =
    let rest = drop (20 - k) ds in
    let digit = 48 + r % 10 in
    let at : 20 - (k + 1) ≡ 19 - k = omega arith in
    let back : (19 - k) + 1 ≡ 20 - k = omega arith in
    let tail : drop (20 - (k + 1)) (set ds (19 - k) digit) ≡ digit ∷ rest = ap
    (λ j. drop j (set ds (19 - k) digit)) at ∙
    (drop-set ds (19 - k) digit (omega arith) ∙ ap (λ j. digit ∷ drop j ds) back) in
    let rest_len : length rest ≡ k = omega (arith, length-drop (20 - k) ds) in
    let head : digit - 48 ≡ r % 10 = omega arith in
    let product : (digit - 48) * 10 ^ length rest ≡
    (r % 10) * 10 ^ k = λ i. head i * 10 ^ rest_len i in
    omega (arith, ap number_of tail, product, one_digit r k, is)

pub skip_zero : (ds : List ℕ) (i : ℕ) → i < length ds → get_or ds i 0 ≡ 48
    → number_of (drop (i + 1) ds) ≡ number_of (drop i ds)
skip_zero ds i below zero_here =
    let rest = drop (suc i) ds in
    let parts : drop i ds ≡ get_or ds i 0 ∷ rest = drop-cons ds i 0 below in
    let nothing : (get_or ds i 0 - 48) * 10 ^ length rest ≡ 0 = ap
    (λ d. (d - 48) * 10 ^ length rest) zero_here ∙ zero-mul (10 ^ length rest) in
    ap (λ j. number_of (drop j ds)) (add-one i) ∙ sym (ap number_of parts ∙ omega (arith, nothing))

pub identifier_text : (text : List ℕ) (o : Option (List ℕ)) → SomeIff o (IsText 128 text) text
    → 1 ≤ length text → length text ≤ 128 → IsSome o
identifier_text text None iff some few = absurd (iff (record { some = some; few = few }))
identifier_text text (Some t) iff some few = refl
