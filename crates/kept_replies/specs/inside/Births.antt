-- Births by the places of rows, for look-ups by birth.
use Rattle.std.specs.Prelude.{◌≡◌, ℕ, Bool, List, map, IsTrue}
use Rattle.kept_replies.specs.Kept.{birth_of}
use Rattle.kept_replies.specs.declared.key.KeptKey.{KeptKey}
use Rattle.kept_replies.specs.declared.entry.KeptEntry.{KeptEntry}

-- births in the order of places, whether every place has its own, and how many more can be added
-- so that no memory is taken
pub record BirthTable : Type 0 where
  pub births : List ℕ
  pub is_whole : Bool
  pub room : ℕ

abbrev pub births_in : List (KeptKey × KeptEntry) → List ℕ
births_in rows = map birth_of rows

-- if every place has its birth, these are the births of the rows
abbrev pub AreBorn : List (KeptKey × KeptEntry) → BirthTable → Type 0
AreBorn rows t = IsTrue t.is_whole → t.births ≡ births_in rows
