-- The lines of a text that comes piece by piece.
use Rattle.std.specs.Prelude.{ℕ, ◌==◌, ◌++◌, List, [], ◌∷◌, if◌then◌else◌}

-- the lines that end in octets, without their ends; the first goes on from what was begun before
abbrev pub lines_behind : List ℕ → List ℕ → List (List ℕ)
lines_behind begun [] = []
lines_behind begun (c ∷ octets) =
    if c == 10
    then begun ∷ lines_behind [] octets
    else lines_behind (begun ++ c ∷ []) octets

-- the line that has no end in octets, from what was begun before
abbrev pub begun_behind : List ℕ → List ℕ → List ℕ
begun_behind begun [] = begun
begun_behind begun (c ∷ octets) =
    if c == 10
    then begun_behind [] octets
    else begun_behind (begun ++ c ∷ []) octets
