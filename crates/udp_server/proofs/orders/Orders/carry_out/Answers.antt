use Rattle.std.proofs.Common.{◌∙◌}
use Rattle.udp_server.specs.Orders.{ordering}
use Rattle.udp_server.specs.Working.{standing}
use Rattle.udp_server.proofs.Carrying.{one_tried, until_none_due}
use Rattle.udp_server.proofs.orders.Orders.carry_out.Goals as goal

pub loop-preserved : goal.loop-preserved
loop-preserved g c =
    let start = c.args.self.now in
    let worker = c.args.worker.now in
    let at = c.loop in
    let then = c.has_tried_next.new in
    record {
      tried = one_tried g.D.Hall.opened g.P.Pool.account g.C.Moments.tells c.loop.counter
          (ordering start.waiting.items start.boxes.items
          (standing worker.seat worker.outlet worker.counts))
          (ordering at.self.waiting.items at.self.boxes.items
          (standing at.worker.seat at.worker.outlet at.worker.counts))
          (ordering then.self.waiting.items then.self.boxes.items
          (standing then.worker.seat then.worker.outlet then.worker.counts)) at.worker.clock
          at.invariant.tried (c.has_tried_next.ensures.tried c.if-not-has_tried_next.false);
      all = c.has_tried_next.ensures.all ∙ c.loop.invariant.all;
    }

pub returns-then-not-has_tried_next-clause-tried : goal.returns-then-not-has_tried_next-clause-tried
returns-then-not-has_tried_next-clause-tried g c =
    let start = c.args.self.now in
    let worker = c.args.worker.now in
    let at = c.loop in
    let then = c.has_tried_next.new in
    until_none_due g.D.Hall.opened g.P.Pool.account g.C.Moments.tells c.loop.counter
    (ordering start.waiting.items start.boxes.items
    (standing worker.seat worker.outlet worker.counts))
    (ordering at.self.waiting.items at.self.boxes.items
    (standing at.worker.seat at.worker.outlet at.worker.counts))
    (ordering then.self.waiting.items then.self.boxes.items
    (standing then.worker.seat then.worker.outlet then.worker.counts)) at.worker.clock
    at.invariant.tried (c.has_tried_next.ensures.same c.if-not-has_tried_next.true)
    (c.has_tried_next.ensures.none c.if-not-has_tried_next.true)
