-- The lines of a script, and the words of a line.
use Rattle.std.specs.Prelude.{ℕ, ◌==◌, Bool, false, List, [], ◌∷◌, length, nat_lt, filter}
use Rattle.std.specs.List.{slice_split}
use Rattle.std.specs.Str.{bytes_eq}

-- each line ends at a newline
abbrev pub lines_of : List ℕ → List (List ℕ)
lines_of text = slice_split (λ c. c == 10) text

-- words are parted by one space or more
abbrev pub words_of : List ℕ → List (List ℕ)
words_of line = filter (λ word. nat_lt 0 (length word)) (slice_split (λ c. c == 32) line)

-- whether this is the first word
abbrev pub begins_with : List ℕ → List (List ℕ) → Bool
begins_with text [] = false
begins_with text (word ∷ rest) = bytes_eq word text
