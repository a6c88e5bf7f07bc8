use Rattle.std.proofs.Common.{◌≡◌}
use Rattle.udp_server.specs.Orders.{numbers_of, ordering}
use Rattle.udp_server.specs.Working.{standing}
use Rattle.udp_server.proofs.Carrying.{AreTried}
use Rattle.udp_server.proofs.orders.Orders.carry_out.Given as goal

-- the orders that were tried so far, of each of which a pool came back
abbrev pub invariant-loop : goal.invariant-loop
invariant-loop g l = record {
  tried : AreTried g.D.Hall.opened g.P.Pool.account g.C.Moments.tells l.counter
      (ordering l.fn.self.waiting.items l.fn.self.boxes.items
      (standing l.fn.worker.seat l.fn.worker.outlet l.fn.worker.counts))
      (ordering l.self.waiting.items l.self.boxes.items
      (standing l.worker.seat l.worker.outlet l.worker.counts));
  all : numbers_of l.self.waiting.items l.self.boxes.items
      ≡ numbers_of l.fn.self.waiting.items l.fn.self.boxes.items;
}
