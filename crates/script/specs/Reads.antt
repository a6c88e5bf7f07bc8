-- What is read for a script.
use Rattle.std.specs.Prelude.{ℕ, ◌≡◌, ◌≤◌, List, length, Option, Result, Ok, Err, IsTrue}
use Rattle.std.specs.Prelude.{◌↔◌, ◌+◌}
use Rattle.std.specs.Io.KnownBytes.{Consumes, IsAtEnd}
use Rattle.script.specs.declared.read.TheConstants.Script as script_octets
use Rattle.script.specs.declared.fault.ScriptFault.{ScriptFault}
use Rattle.script.specs.declared.fault.ScriptFault.TheVariants.{TooLong, BadLine, NoZone}
use Rattle.script.specs.declared.fault.ScriptFault.TheVariants.{NoDefaultPool, Stream, Memory}
use Rattle.script.specs.declared.read.Script.{Script}
use Rattle.script.specs.Scripts.{script_of, GivesUnlessStopped}
use Rattle.script.specs.Streams.{InputState}

-- a reading of the input as such ends so, and for no other reason
abbrev pub IsInputFault : ScriptFault → Type 0
IsInputFault TooLong = Unit {0}
IsInputFault (BadLine line) = ⊥
IsInputFault NoZone = ⊥
IsInputFault NoDefaultPool = ⊥
IsInputFault Stream = Unit {0}
IsInputFault Memory = Unit {0}

-- the octets, at most `most` of them, that were taken from the front of those that the reader
-- had left
pub record ConsumesAtMost (most : ℕ) (old new : Option (List ℕ)) : Type 0 where
  pub octets : List ℕ
  pub few : length octets ≤ most
  pub taken : Consumes old new octets

pub record ConsumesExactly (count : ℕ) (old new : Option (List ℕ)) : Type 0 where
  pub octets : List ℕ
  pub exact : length octets ≡ count
  pub taken : Consumes old new octets

-- A script, and a fault of its lines, is told only at the input's end.
abbrev pub IsAtEndIfRead : Result Script ScriptFault → Option (List ℕ) → Type 0
IsAtEndIfRead (Ok script) left = IsAtEnd left
IsAtEndIfRead (Err (BadLine line)) left = IsAtEnd left
IsAtEndIfRead (Err NoZone) left = IsAtEnd left
IsAtEndIfRead (Err NoDefaultPool) left = IsAtEnd left
IsAtEndIfRead (Err TooLong) left = Unit {0}
IsAtEndIfRead (Err Stream) left = Unit {0}
IsAtEndIfRead (Err Memory) left = Unit {0}

-- At most one octet past the greatest size is read, and what is returned is what the octets say.
-- The fault Stream is returned if and only if the last read failed; no octet is read behind it.
pub record ReadsScript (old new : InputState) (answer : Result Script ScriptFault) : Type 0 where
  pub text : List ℕ
  pub taken : Consumes old.left new.left text
  pub few : length text ≤ script_octets.MOST + 1
  pub meaning : GivesUnlessStopped (script_of text) answer
  pub long : answer ≡ Err TooLong → length text ≡ script_octets.MOST + 1
  pub end : IsAtEndIfRead answer new.left
  pub stream : (answer ≡ Err Stream) ↔ IsTrue new.failed
