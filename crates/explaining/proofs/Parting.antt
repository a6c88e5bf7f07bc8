-- A text is parted into lines.
use Rattle.std.proofs.Common.{◌≡◌, ◌∙◌, ℕ, ◌+◌, List, inl, inr, ap, sym}
use Rattle.value_texts.specs.Parts.{front_part, rest_part}
use Rattle.value_texts.proofs.Parting.{split_step}
use Rattle.explaining.specs.Lines.{lines_of, with_line, with_lines}

-- what is said of lines is what is said of the first, and then of those behind it
pub lines_more : (text : List ℕ) (number : ℕ) (rest : List ℕ)
    → with_lines text number (lines_of rest)
    ≡ with_lines (with_line text number (front_part 10 rest)) (number + 1)
    (lines_of (rest_part 10 rest))
lines_more text number rest = elim (split_step 10 rest) [
  | inl e ↦ ap (with_lines text number) e
  | inr e ↦ ap (with_lines text number) e.0
      ∙ ap (λ (behind : List ℕ). with_lines (with_line text number (front_part 10 rest))
      (number + 1) (lines_of behind)) (sym e.1)
]
