use Rattle.reply_queues.specs.Rings.{SameOutlet}
use Rattle.server_tests.proofs.rings.two_threads.put_all.Given as goal

abbrev pub invariant-loop-datagram : goal.invariant-loop-datagram
invariant-loop-datagram g l = SameOutlet l.initial.outlet l.outlet
