-- Numbers in decimal digits.
use Rattle.std.proofs.Common.{◌≡◌, ℕ, ◌+◌, ◌-◌, ◌*◌, ◌<◌, true, leb, ltb, None, List, length}
use Rattle.std.proofs.Common.{take, get_or, ap, ◌∙◌, arith, rules}
use Rattle.std.proofs.lemmas.Bool.Decides.{nat_tests}
use Rattle.std.proofs.lemmas.Int.Digits.{digits_value_more}
use Rattle.std.proofs.lemmas.List.Folds.{list_all_more}
use Rattle.std.proofs.lemmas.Str.Parse.{digits_value-take-le}
use Rattle.std.specs.Char.{is_ascii_digit, digit_value}
use Rattle.std.specs.List.{list_all}
use Rattle.std.specs.Str.Parse.{digits_value}
use Rattle.value_texts.specs.Texts.{number_of}
use Rattle.value_texts.proofs.FourTests.{none_at_last}

pub too_large : (low high : ℕ) (word : List ℕ) (i : ℕ) → high < digits_value 10 (take i word)
    → None ≡ number_of low high word
too_large low high word i above =
    let whole : high < digits_value 10 word =
    omega (arith, digits_value-take-le 10 word i (omega arith)) in
    none_at_last (ltb 0 (length word)) (list_all is_ascii_digit word)
    (leb low (digits_value 10 word)) _ (digits_value 10 word)
    (search (rules, nat_tests))

-- one more digit
digit_value_is : (c : ℕ) → is_ascii_digit c ≡ true → digit_value c ≡ c - 48
digit_value_is c e = grind (arith, nat_tests)

pub digit_more : (word : List ℕ) (i : ℕ) → i < length word → is_ascii_digit (get_or word i 0) ≡ true
    → digits_value 10 (take (i + 1) word)
    ≡ digits_value 10 (take i word) * 10 + (get_or word i 0 - 48)
digit_more word i below e =
    digits_value_more 10 word i below
    ∙ ap (λ d. digits_value 10 (take i word) * 10 + d) (digit_value_is (get_or word i 0) e)

pub digits_more : (word : List ℕ) (i : ℕ) → i < length word
    → is_ascii_digit (get_or word i 0) ≡ true
    → list_all is_ascii_digit (take i word) ≡ true
    → list_all is_ascii_digit (take (i + 1) word) ≡ true
digits_more word i below e so_far = list_all_more is_ascii_digit word i 0 below ∙ rw so_far e
