-- On which lines of a TOML document a key stands.
use Rattle.std.specs.Prelude.{ℕ, ◌+◌, ◌==◌, ◌++◌, Bool, false, List, [], ◌∷◌, codes, drop, length}
use Rattle.std.specs.Prelude.{map, nat_eq, Option, Some, None, if◌then◌else◌}
use Rattle.std.specs.List.{before_first, list_any, slice_get, starts_with}
use Rattle.std.specs.Option.{unwrap_or}
use Rattle.std.specs.Str.{bytes_eq, trim}
use Rattle.std.specs.Str.Lines.{lines}

-- what stands behind this beginning, if the text begins so
abbrev pub behind : List ℕ → List ℕ → Option (List ℕ)
behind beginning text =
    if starts_with nat_eq text beginning then Some (drop (length beginning) text) else None

-- what stands before the first such mark, without white space around it; none if there is no mark
abbrev pub before_mark : ℕ → List ℕ → Option (List ℕ)
before_mark mark text =
    if list_any (λ c. c == mark) text
    then Some (trim (before_first (λ c. c == mark) text))
    else None

-- what stands so before the first `]`, which is octet 93
abbrev pub before_bracket : Option (List ℕ) → Option (List ℕ)
before_bracket (Some inner) = before_mark 93 inner
before_bracket None = None

-- the table that a line opens, if it is `[TABLE]` or `[[TABLE]]`
abbrev pub table_in : List ℕ → Option (List ℕ)
table_in line =
    if starts_with nat_eq line (codes "[[") then before_bracket (behind (codes "[[") line)
    else before_bracket (behind (codes "[") line)

-- the table in which the next line stands, if a line stands in this one
abbrev pub table_behind : List ℕ → List ℕ → List ℕ
table_behind table line = unwrap_or (table_in line) table

-- the key that a line sets, before the first `=`, which is octet 61
abbrev pub key_in : List ℕ → Option (List ℕ)
key_in line = before_mark 61 line

-- the path of a key in a table; outside of all tables, the empty one, it is the key
abbrev pub path_in : List ℕ → List ℕ → List ℕ
path_in [] key = key
path_in (c ∷ table) key = (c ∷ table) ++ codes "." ++ key

-- whether a path is that of the table which a line opens, or else of the key which it sets
abbrev pub is_path_of : List ℕ → List ℕ → Option (List ℕ) → Option (List ℕ) → Bool
is_path_of path table (Some name) key = bytes_eq path name
is_path_of path table None (Some key) = bytes_eq path (path_in table key)
is_path_of path table None None = false

-- whether a line names a path, if it stands in this table
abbrev pub is_named : List ℕ → List ℕ → List ℕ → Bool
is_named path table line = is_path_of path table (table_in line) (key_in line)

-- the numbers of the lines that name a path, if the first has this number and stands in this table
abbrev pub naming_lines : List ℕ → List ℕ → ℕ → List (List ℕ) → List ℕ
naming_lines path table number [] = []
naming_lines path table number (line ∷ lines) =
    (if is_named path table line then number ∷ [] else [])
    ++ naming_lines path (table_behind table line) (number + 1) lines

-- the number, from 1, of a line of a text that names a path, behind so many others that name it
abbrev pub line_of : List ℕ → List ℕ → ℕ → Option ℕ
line_of text path before = slice_get (naming_lines path [] 1 (map trim (lines text))) before
