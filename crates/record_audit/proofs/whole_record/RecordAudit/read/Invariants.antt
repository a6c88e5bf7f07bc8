use Rattle.std.proofs.Common.{◌≤◌, ◌+◌, length}
use Rattle.record_audit.specs.inside.{Reached}
use Rattle.record_audit.proofs.whole_record.RecordAudit.read.Given as goal

abbrev pub invariant-loop-front : goal.invariant-loop-front
invariant-loop-front l = record {
  reached : Reached l.fn.self l.fn.octets l.rest l.self;
  lines : l.self.lines + length l.rest ≤ l.fn.self.lines + length l.fn.octets;
}

abbrev pub decreases-loop-front : goal.decreases-loop-front
decreases-loop-front l = length l.rest
