-- A text from its first word on.
use Rattle.std.proofs.Common.{◌≡◌, ℕ, ◌-◌, ◌<◌, ◌≤◌, inl, inr, Bool, true, false, cond, not}
use Rattle.std.proofs.Common.{eqb, ltb, Option, Some, None, List, [], length, take, drop, sym}
use Rattle.std.proofs.Common.{ap, ◌∙◌, arith, rules, length-drop}
use Rattle.std.proofs.lemmas.Bool.{cases_lt}
use Rattle.std.proofs.lemmas.Bool.Decides.{nat_tests}
use Rattle.std.proofs.lemmas.List.{take_all, drop_all}
use Rattle.std.specs.List.{position_or_len}
use Rattle.explaining.specs.Lines.{at_word}

abbrev is_no_space : ℕ → Bool
is_no_space c = not (eqb c 32)

abbrev place_of : List ℕ → ℕ
place_of text = position_or_len is_no_space text

-- what a search for an octet that is no space answers
abbrev pub found_in : List ℕ → Option ℕ
found_in text = cond (ltb (place_of text) (length text)) (Some (place_of text)) None

some_place : (n m place : ℕ) → cond (ltb n m) (Some n) None ≡ Some place → place ≡ n
some_place n m place e = elim (cases_lt n m) [
  | inl h ↦ let b : ltb n m ≡ true = search (rules, nat_tests) in
      let e' : Some n ≡ Some place = rw b at e in cc e'
  | inr h ↦ let b : ltb n m ≡ false = search (rules, nat_tests) in
      let e' : ◌≡◌ {A = Option ℕ} None (Some place) = rw b at e in absurd (cc e')
]

no_place : (n m : ℕ) → cond (ltb n m) (Some n) None ≡ None → m ≤ n
no_place n m e = elim (cases_lt n m) [
  | inl h ↦ let b : ltb n m ≡ true = search (rules, nat_tests) in
      let e' : Some n ≡ None = rw b at e in absurd (cc e')
  | inr h ↦ h
]

pub word_found : (place : ℕ) (text : List ℕ) → found_in text ≡ Some place
    → take (length text - place) (drop place text) ≡ at_word text
word_found place text e =
    take_all (length text - place) (drop place text) (omega (arith, length-drop place text))
    ∙ ap (λ n. drop n text) (some_place _ _ place e)

pub no_word : (text : List ℕ) → found_in text ≡ None → [] ≡ at_word text
no_word text e = sym (drop_all (place_of text) text (no_place _ _ e))
