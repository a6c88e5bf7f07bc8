-- The parts of a text.
use Rattle.std.specs.Prelude.{ℕ, ◌==◌, List}
use Rattle.std.specs.List.{before_first, after_first}

-- what stands before the first such mark, and what stands behind it
abbrev pub front_part : ℕ → List ℕ → List ℕ
front_part mark text = before_first (λ c. c == mark) text

abbrev pub rest_part : ℕ → List ℕ → List ℕ
rest_part mark text = after_first (λ c. c == mark) text
