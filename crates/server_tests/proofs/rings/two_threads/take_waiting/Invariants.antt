use Rattle.reply_queues.specs.Rings.{SameInlet}
use Rattle.server_tests.proofs.rings.two_threads.take_waiting.Given as goal

abbrev pub invariant-loop : goal.invariant-loop
invariant-loop g l = SameInlet l.initial.inlet l.inlet
