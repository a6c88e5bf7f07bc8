-- A line is parted into words.
use Rattle.std.proofs.Common.{◌≡◌, ℕ, ◌<◌, inl, inr, Bool, true, cond, List, ◌∷◌, length, sym, ap}
use Rattle.std.proofs.Common.{◌∙◌, rules, filter, nat_lt}
use Rattle.std.proofs.lemmas.Bool.Decides.{nat_tests}
use Rattle.value_texts.specs.Parts.{front_part, rest_part}
use Rattle.value_texts.proofs.Parting.{split_step}
use Rattle.script.specs.Words.{words_of}

abbrev is_word : List ℕ → Bool
is_word word = nat_lt 0 (length word)

pub words_step : (line : List ℕ)
    → words_of line ≡ cond (is_word (front_part 32 line))
    (front_part 32 line ∷ words_of (rest_part 32 line)) (words_of (rest_part 32 line))
words_step line = elim (split_step 32 line) [
  | inl e ↦ ap (filter is_word) e
  | inr e ↦ ap (filter is_word) e.0 ∙ ap (λ rest. cond (is_word (front_part 32 line))
      (front_part 32 line ∷ words_of rest) (words_of rest)) (sym e.1)
]

pub words_more : (line front rest : List ℕ) → front ≡ front_part 32 line
    → rest ≡ rest_part 32 line → (0 < length front)
    → words_of line ≡ front ∷ words_of rest
words_more line front rest is_front is_rest some =
    let b : is_word front ≡ true = search (rules, nat_tests) in
    let at : words_of line ≡ cond (is_word front) (front ∷ words_of rest) (words_of rest) =
    rw (is_front, is_rest) (words_step line) in
    rw b at at
