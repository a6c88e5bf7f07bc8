use Rattle.reply_queues.specs.Rings.{SameInlet}
use Rattle.server_tests.proofs.rings.two_threads.take_all.Given as goal

abbrev pub invariant-loop-number : goal.invariant-loop-number
invariant-loop-number g l = SameInlet l.initial.inlet l.inlet
