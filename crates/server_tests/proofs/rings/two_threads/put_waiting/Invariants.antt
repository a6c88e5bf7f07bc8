use Rattle.reply_queues.specs.Rings.{SameOutlet}
use Rattle.server_tests.proofs.rings.two_threads.put_waiting.Given as goal

abbrev pub invariant-loop : goal.invariant-loop
invariant-loop g l = SameOutlet l.initial.outlet l.outlet
