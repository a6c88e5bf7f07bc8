use Rattle.std.proofs.Common.{◌≡◌, ◌<◌, false}
use Rattle.record_audit.specs.inside.{IsReadTo}
use Rattle.record_audit.proofs.whole_record.read_input.Given as goal

abbrev pub invariant-loop : goal.invariant-loop
invariant-loop g l = record {
  read : IsReadTo l.initial.input.left l.input.left l.counter l.audit;
  sound : 0 < l.counter → l.input.failed ≡ false;
}
