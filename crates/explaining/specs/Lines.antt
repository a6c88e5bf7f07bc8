-- Lines that write datagrams, and what is said of them.
use Rattle.std.specs.Prelude.{ℕ, ◌+◌, ◌==◌, ◌||◌, not, List, [], ◌∷◌, ◌++◌, Bool, length, codes}
use Rattle.std.specs.Prelude.{drop, filter, Option, Some, None, nat_eq, if◌then◌else◌}
use Rattle.std.specs.List.{list_all, position_or_len, slice_split}
use Rattle.std.specs.Result.{result_ok}
use Rattle.std.specs.Str.{bytes_eq}
use Rattle.hex.specs.Hex.{decode_of}
use Rattle.value_texts.specs.Parts.{front_part, rest_part}
use Rattle.explaining.specs.Messages.{with_message}
use Rattle.explaining.specs.Parts.{with_number}

-- what stands between octets: a space, a tab, a colon, a carriage return
abbrev pub is_between : ℕ → Bool
is_between c = nat_eq c 32 || nat_eq c 9 || nat_eq c 58 || nat_eq c 13

abbrev pub digits_in : List ℕ → List ℕ
digits_in text = filter (λ c. not (is_between c)) text

-- the octets that a text writes, each as two digits of base 16, if it writes such
abbrev pub octets_in : List ℕ → Option (List ℕ)
octets_in text = result_ok (decode_of (digits_in text))

-- a text from its first octet on that is no space, where its first word begins
abbrev pub at_word : List ℕ → List ℕ
at_word text = drop (position_or_len (λ c. not (c == 32)) text) text

-- what stands behind the first word of a text, and the space that ends it
abbrev pub behind_word : List ℕ → List ℕ
behind_word text = rest_part 32 (at_word text)

-- The part of a line that writes octets: in `at MS from ADDRESS HEX` it stands behind four words,
-- and in `.. > ADDRESS HEX` behind the address; else it is the line.
abbrev pub octets_part : List ℕ → List ℕ
octets_part line =
    if bytes_eq (front_part 32 (at_word line)) (codes "at")
    then behind_word (behind_word (behind_word (behind_word line)))
    else if nat_eq (length (rest_part 62 line)) 0 then line
    else behind_word (rest_part 62 line)

abbrev pub with_octets : List ℕ → Option (List ℕ) → List ℕ
with_octets text None = text ++ codes "no datagram"
with_octets text (Some octets) = with_message text octets

-- the number of a line, and what its datagram is; nothing of a blank line
abbrev pub with_line : List ℕ → ℕ → List ℕ → List ℕ
with_line text number line =
    if list_all is_between line then text
    else with_octets (with_number text (codes "") number ++ codes " ")
    (octets_in (octets_part line)) ++ codes "\n"

-- lines, of which the first has this number
abbrev pub with_lines : List ℕ → ℕ → List (List ℕ) → List ℕ
with_lines text number [] = text
with_lines text number (line ∷ lines) =
    with_lines (with_line text number line) (number + 1) lines

-- each line ends at a newline
abbrev pub lines_of : List ℕ → List (List ℕ)
lines_of text = slice_split (λ c. c == 10) text

-- what is said of the lines of a text, which are counted from 1
abbrev pub explained : List ℕ → List ℕ
explained text = with_lines [] 1 (lines_of text)
