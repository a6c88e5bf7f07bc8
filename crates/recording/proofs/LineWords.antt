-- The words and the numbers of a line, read as they were written.
use Rattle.std.proofs.Common.{◌≡◌, ◌<◌, ◌≤◌, ◌+◌, ◌-◌, ◌^◌, ◌==◌, ◌&&◌, ℕ, suc, List, [], ◌∷◌, ◌++◌}
use Rattle.std.proofs.Common.{Bool, true, false, cond, Some, None, length, if◌then◌else◌}
use Rattle.std.proofs.Common.{arith, refl, ap, ◌∙◌, filter, nat_lt, nat_le}
use Rattle.std.proofs.lemmas.Bool.Decides.{nat_tests}
use Rattle.std.proofs.lemmas.Fmt.{decimal_is_IsNumeral}
use Rattle.std.proofs.lemmas.List.Elements.{All-from_recursion}
use Rattle.std.proofs.lemmas.List.Splits.{slice_split_at, slice_split_none}
use Rattle.std.proofs.lemmas.Str.Parse.{digit_from_value}
use Rattle.std.specs.Char.{is_ascii_digit}
use Rattle.std.specs.Fmt.{decimal}
use Rattle.std.specs.Int.{IsInRange}
use Rattle.std.specs.List.{AllByRecursion, list_all}
use Rattle.std.specs.Str.Parse.{AllDigits}
use Rattle.value_texts.specs.Texts.{number_of}
use Rattle.script.specs.Words.{words_of}

abbrev pub Without : ℕ → List ℕ → Type 0
Without mark word = AllByRecursion (λ c. (c == mark) ≡ false) word

pub without_append : (mark : ℕ) (xs ys : List ℕ) → Without mark xs → Without mark ys
    → Without mark (xs ++ ys)
without_append mark [] ys h k = k
without_append mark (x ∷ xs) ys h k = (h.0, without_append mark xs ys h.1 k)

-- ---- words

abbrev is_word : List ℕ → Bool
is_word word = nat_lt 0 (length word)

pub words_front : (word rest : List ℕ) → Without 32 word → 0 < length word
    → words_of (word ++ 32 ∷ rest) ≡ word ∷ words_of rest
words_front word rest none some =
    let b : is_word word ≡ true = grind (arith, nat_tests) in
    ap (filter is_word) (slice_split_at (λ c. c == 32) word 32 rest
    (All-from_recursion (λ c. (c == 32) ≡ false) word none) refl)
    ∙ ap (λ (t : Bool). cond t (word ∷ words_of rest) (words_of rest)) b

pub words_last : (word : List ℕ) → Without 32 word → 0 < length word
    → words_of word ≡ word ∷ []
words_last word none some =
    let b : is_word word ≡ true = grind (arith, nat_tests) in
    ap (filter is_word) (slice_split_none (λ c. c == 32) word
    (All-from_recursion (λ c. (c == 32) ≡ false) word none))
    ∙ ap (λ (t : Bool). cond t (word ∷ []) []) b

-- ---- numbers

digits_pass : (ds : List ℕ) → AllDigits 10 ds → list_all is_ascii_digit ds ≡ true
digits_pass [] d = refl
digits_pass (c ∷ cs) d =
    let in_range : IsInRange 48 57 c = digit_from_value c d.0 in
    let one : is_ascii_digit c ≡ true = grind (arith, nat_tests) in
    rw (one, digits_pass cs d.1) refl

-- a mark that is no digit
abbrev pub IsMark : ℕ → Type 0
IsMark mark = (c : ℕ) → IsInRange 48 57 c → (c == mark) ≡ false

digits_without : (mark : ℕ) → IsMark mark → (ds : List ℕ) → AllDigits 10 ds → Without mark ds
digits_without mark out [] d = tt
digits_without mark out (c ∷ cs) d =
    (out c (digit_from_value c d.0), digits_without mark out cs d.1)

pub space_is_mark : IsMark 32
space_is_mark c r = grind (arith, nat_tests)

pub end_is_mark : IsMark 10
end_is_mark c r = grind (arith, nat_tests)

pub dot_is_mark : IsMark 46
dot_is_mark c r = grind (arith, nat_tests)

pub colon_is_mark : IsMark 58
colon_is_mark c r = grind (arith, nat_tests)

pub slash_is_mark : IsMark 47
slash_is_mark c r = grind (arith, nat_tests)

module _ (n : ℕ) (small : n < 2 ^ 64) where
  pub number_without : (mark : ℕ) → IsMark mark → Without mark (decimal n)
  number_without mark out =
      digits_without mark out (decimal n) (decimal_is_IsNumeral n small).0.1

  pub number_back : (low high : ℕ) → low ≤ n → n ≤ high → number_of low high (decimal n) ≡ Some n
  number_back low high above below =
      let numeral = decimal_is_IsNumeral n small in
      let some : nat_lt 0 (length (decimal n)) ≡ true = grind (arith, nat_tests, numeral.0.0) in
      let least : nat_le low n ≡ true = grind (arith, nat_tests) in
      let most : nat_le n high ≡ true = grind (arith, nat_tests) in
      let digits = digits_pass (decimal n) numeral.0.1 in
      (λ i. if nat_lt 0 (length (decimal n)) && list_all is_ascii_digit (decimal n)
      && nat_le low (numeral.1 i) && nat_le (numeral.1 i) high then Some (numeral.1 i) else None)
      ∙ (λ i. if some i && digits i && least i && most i then Some n else None)
