use Rattle.std.proofs.Common.{length}
use Rattle.surroundings.specs.Signals.{waiting_of}
use Rattle.surroundings.proofs.Waiting.{Tells}
use Rattle.surroundings.proofs.stop_signal.waiting.Given as goal

abbrev pub invariant-loop-line : goal.invariant-loop-line
invariant-loop-line l = record {
  can : (goal.iterator-loop-line).can_next l.line-iterator;
  ends : (goal.iterator-loop-line).is_finite l.line-iterator;
  tells : Tells l.status (length l.yielded) (waiting_of l.status);
}
