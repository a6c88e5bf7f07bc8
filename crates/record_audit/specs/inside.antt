-- What the functions inside the crate owe one another. No public contract speaks of it.
use Rattle.std.specs.Prelude.{ℕ, ◌≡◌, ◌≤◌, ◌*◌, ◌==◌, ◌++◌, false, List, ◌∷◌, length, Option}
use Rattle.std.specs.List.{AllByRecursion}
use Rattle.std.specs.Io.KnownBytes.{Consumes}
use Rattle.record_audit.specs.Audits.{Follows, Reading, first_reading}
use Rattle.record_audit.specs.Records.{most_octets}

-- no line ends in octets
abbrev pub HasNoEnd : List ℕ → Type 0
HasNoEnd octets = AllByRecursion (λ c. (c == 10) ≡ false) octets

-- octets are parted at the first end of a line
pub record IsParted (octets front behind : List ℕ) : Type 0 where
  pub whole : octets ≡ front ++ 10 ∷ behind
  pub first : HasNoEnd front

-- the octets before the rest were followed
pub record Reached (old : Reading) (octets rest : List ℕ) (new : Reading) : Type 0 where
  pub seen : List ℕ
  pub whole : octets ≡ seen ++ rest
  pub follows : Follows old seen new

-- what was taken from an input in these pieces was followed
pub record IsReadTo (old new : Option (List ℕ)) (pieces : ℕ) (reading : Reading) : Type 0 where
  pub text : List ℕ
  pub taken : Consumes old new text
  pub follows : Follows first_reading text reading
  pub few : length reading.begun ≤ most_octets
  pub octets : pieces ≤ length text
  pub lines : reading.lines ≤ 4096 * pieces
