-- How a command ends that reads an input and writes an output: with which exit status.
use Rattle.std.specs.Prelude.{ℕ, ◌≡◌, ◌++◌, List, Option, IfSome, OnOk, Result, Ok, Err}
use Rattle.std.specs.Io.KnownBytes.{Appends}
use Rattle.explaining.specs.Lines.{explained}
use Rattle.script.specs.Streams.{InputState, OutputState}
use Rattle.commands.specs.Audits.{TellsAudit, record_status}
use Rattle.commands.specs.Checks.{AreChecked, IsWritten, WritesSettings}
use Rattle.commands.specs.Inputs.{input_status}
use Rattle.commands.specs.Replays.{Replays, status_of}
use Rattle.commands.specs.declared.auditing_input.RecordFault.{RecordFault}
use Rattle.commands.specs.declared.replaying.ReplayFault.{ReplayFault}
use Rattle.commands.specs.declared.settings_input.InputFault.{InputFault}

-- the exit status of what a command came to: 0, or that of its fault
abbrev pub ended_status : {E : Type 0} → (E → ℕ) → Result Unit E → ℕ
ended_status of_fault (Ok done) = 0
ended_status of_fault (Err fault) = of_fault fault

-- A script was replayed, and the exit status tells what that came to.
pub record IsReplayed (left left_now : InputState) (old new : OutputState) (status : ℕ)
    : Type 0 where
  pub answer : Result Unit ReplayFault
  pub replayed : Replays left left_now old new answer
  pub ended : status ≡ ended_status status_of answer

-- Settings were checked and written, once, and the exit status tells what that came to.
pub record AreSettingsChecked (left : Option (List ℕ)) (old new : OutputState) (status : ℕ)
    : Type 0 where
  pub answer : Result Unit InputFault
  pub checked : IfSome left (λ octets. AreChecked octets answer)
  pub listed : OnOk answer (WritesSettings left old.contents new.contents)
  pub written : IsWritten old new answer
  pub ended : status ≡ ended_status input_status answer

-- A record was audited, and the exit status tells what that came to.
pub record IsAudited (left : InputState) (old new : OutputState) (status : ℕ) : Type 0 where
  pub answer : Result Unit RecordFault
  pub told : TellsAudit left.left old new answer
  pub ended : status ≡ ended_status record_status answer

-- Datagrams were explained, and the exit status tells what that came to.
pub record AreExplained (left : Option (List ℕ)) (old new : OutputState) (status : ℕ) : Type 0 where
  pub answer : Result Unit InputFault
  pub told : IfSome left (λ octets.
      OnOk answer (Appends old.contents new.contents (explained octets)))
  pub written : IsWritten old new answer
  pub ended : status ≡ ended_status input_status answer
