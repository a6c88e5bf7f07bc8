use Rattle.std.proofs.Common.{◌≡◌}
use Rattle.std.specs.Prelude.{Result}
use Rattle.std.specs.declared.io.Error.{Error}
use Rattle.std.specs.Vec.Iter.{drain_items}
use Rattle.recording.specs.declared.writer.Recorded.{Recorded}
use Rattle.recording.specs.Records.{AreAnswered}
use Rattle.recording.specs.Standings.{Standing}
use Rattle.recording.proofs.writer.RecordWriter.write_entries.Given as goal

-- whatever is answered of the entries that are still to come, is answered of all
abbrev pub invariant-loop-entry : goal.invariant-loop-entry
invariant-loop-entry g l = (result : Result Recorded Error) (last : Standing)
    → AreAnswered l.self (drain_items l.entry-iterator) result last
    → AreAnswered l.fn.self l.fn.entries.items result last
