use Rattle.std.specs.Vec.Iter.{drain_items}
use Rattle.udp_server.specs.Working.{AreHandedOn, Standing, standing}
use Rattle.udp_server.proofs.worker.Worker.post_all.Given as goal

-- whatever the replies that are still to come lead to from here, all of them lead to from the start
abbrev pub invariant-loop-datagram : goal.invariant-loop-datagram
invariant-loop-datagram g l = (last : Standing)
    → AreHandedOn (drain_items l.datagram-iterator)
    (standing l.self.seat l.self.outlet l.self.counts) last
    → AreHandedOn l.fn.replies.items
    (standing l.fn.self.seat l.fn.self.outlet l.fn.self.counts) last
