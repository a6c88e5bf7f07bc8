-- The first line of a record, and what is written behind it at once.
use Rattle.std.specs.Prelude.{ℕ, ◌≡◌, ◌==◌, ◌++◌, List, Option, codes, false}
use Rattle.std.specs.List.{list_any}
use Rattle.std.specs.Io.KnownBytes.{Appends}
use Rattle.recording.specs.Records.{IsBegun}
use Rattle.recording.specs.Standings.{Standing}
use Rattle.recording.specs.Zones.{ZoneParts}

-- the text has no line end
abbrev pub IsOneLine : List ℕ → Type 0
IsOneLine text = list_any (λ octet. octet == 10) text ≡ false

-- One line was written, which an audit passes over: it tells when the record begins, or that no
-- clock told it.
abbrev pub WritesBeginning : Option (List ℕ) → Option (List ℕ) → Type 0
WritesBeginning old new =
    (beginning : List ℕ) × IsOneLine beginning
    × Appends old new (codes "# recorded " ++ beginning ++ codes "\n")

-- A record of this zone was begun, with this bound, behind its first line.
pub record IsBegunBehind (before : Option (List ℕ)) (zone : ZoneParts) (most : ℕ)
    (standing : Standing) : Type 0 where
  pub behind : Option (List ℕ)
  pub beginning : WritesBeginning before behind
  pub begun : IsBegun behind zone most standing
