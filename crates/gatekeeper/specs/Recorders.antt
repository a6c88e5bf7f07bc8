-- What a record gets of the entries that leave a zone's history while it is served.
use Rattle.std.specs.Prelude.{ℕ, ◌≡◌, ◌==◌, ◌&&◌, ◌⊎◌, Bool, IsTrue, true, false, List, Result, Ok}
use Rattle.std.specs.Prelude.{Err, vec_len}
use Rattle.std.specs.Io.KnownBytes.{Keeps}
use Rattle.std.specs.declared.io.Error.{Error}
use Rattle.books.specs.declared.book.Entry.{Entry}
use Rattle.zone_lock.specs.declared.handing.HandedOut.{HandedOut}
use Rattle.recording.specs.declared.writer.Recorded.{Recorded}
use Rattle.recording.specs.declared.writer.Recorded.TheVariants.{Closed, Ended, Written}
use Rattle.recording.specs.declared.writer.End.TheVariants.{Overrun}
use Rattle.recording.specs.Records.{AreAnswered, IsEndAnswer}
use Rattle.recording.specs.Standings.{Standing}

-- the entries are the next ones of the history, and more may come
abbrev pub go_on : ℕ → HandedOut → Bool
go_on steps handed = handed.is_recorded && (handed.first == steps)

-- such entries are written, up to one that isn't; otherwise the record ends
abbrev pub IsPutDownIf : {E : Type 0} → Bool → Standing → List Entry → Result Recorded E → Standing
    → Type 0
IsPutDownIf true old entries result new = AreAnswered old entries result new
IsPutDownIf false old entries result new = IsEndAnswer Overrun old result new

abbrev pub IsPutDown : {E : Type 0} → Standing → HandedOut → Result Recorded E → Standing → Type 0
IsPutDown old handed result new =
    IsPutDownIf (go_on old.steps handed) old handed.entries.items result new

-- A flush was made: what was written stays, and nothing changes but the output and whether a
-- further step may be written. If it failed, none may; else it is as before.
pub record IsFlushed (old new : Standing) : Type 0 where
  pub same : new ≡ record old { output = new.output; is_open = new.is_open }
  pub text : Keeps old.output.contents new.output.contents
  pub made : (IsTrue new.output.flushed × (new.is_open ≡ old.is_open)) ⊎ (new.is_open ≡ false)

-- what comes behind such an answer: a record that ended, or into which a write failed, is flushed,
-- and any other stays as it is
abbrev pub IsBehindAnswer : {E : Type 0} → Result Recorded E → Standing → Standing → Type 0
IsBehindAnswer (Ok (Ended why)) old new = IsFlushed old new
IsBehindAnswer (Ok Written) old new = new ≡ old
IsBehindAnswer (Ok Closed) old new = new ≡ old
IsBehindAnswer (Err error) old new = IsFlushed old new

-- the entries were put down, and what comes behind that was done
abbrev pub ArePut : Standing → HandedOut → Standing → Type 0
ArePut old handed new = (answer : Result Recorded Error) × (mid : Standing)
    × IsPutDown old handed answer mid × IsBehindAnswer answer mid new

-- what left a zone's history was put down, by this place, with these entries, and whether more may
-- come; so many entries left it
abbrev pub AreTaken : (ℕ → List Entry → Bool → Type 0) → Standing → Standing → ℕ → Type 0
AreTaken left old new count = (handed : HandedOut)
    × left handed.first handed.entries.items handed.is_recorded
    × ArePut old handed new × (count ≡ vec_len handed.entries)
