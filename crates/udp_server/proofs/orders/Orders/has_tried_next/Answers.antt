use Rattle.std.specs.Prelude.{false, true}
use Rattle.udp_server.proofs.Numbers.{one_back}
use Rattle.udp_server.proofs.orders.Orders.has_tried_next.Goals as goal

pub returns-in-Ok-clause-tried : goal.returns-in-Ok-clause-tried
returns-in-Ok-clause-tried g c is = (
  c.in-Some.order,
  record {
    moment = c.now-now.result;
    back = c.in-Ok.old;
    is_old = true;
    told = (c.now-now.new.self, c.now-now.ensures);
    next = c.in-Some.ensures.next;
    came = c.in-Ok.ensures.replaced;
    kept = let boxes = c.next_at.ensures.boxes in cc (c.push_reserved.ensures.items, boxes);
  },
)

pub returns-in-Err-clause-tried : goal.returns-in-Err-clause-tried
returns-in-Err-clause-tried g c is = (
  c.in-Some.order,
  record {
    moment = c.now-now.result;
    back = c.in-Err.fresh;
    is_old = false;
    told = (c.now-now.new.self, c.now-now.ensures);
    next = c.in-Some.ensures.next;
    came = c.in-Err.ensures.kept;
    kept = let boxes = c.next_at.ensures.boxes in cc (c.push_reserved-in-Err.ensures.items, boxes);
  },
)

pub returns-in-Ok-clause-all : goal.returns-in-Ok-clause-all
returns-in-Ok-clause-all g c =
    let boxes = c.next_at.ensures.boxes in
    one_back c.args.self.now.waiting.items c.next_at.new.self.waiting.items c.in-Some.order
    c.args.self.now.boxes.items c.push_reserved.new.self.items c.in-Ok.old true
    c.in-Some.ensures.next.0 (cc (c.push_reserved.ensures.items, boxes))

pub returns-in-Err-clause-all : goal.returns-in-Err-clause-all
returns-in-Err-clause-all g c =
    let boxes = c.next_at.ensures.boxes in
    one_back c.args.self.now.waiting.items c.next_at.new.self.waiting.items c.in-Some.order
    c.args.self.now.boxes.items c.push_reserved-in-Err.new.self.items c.in-Err.fresh false
    c.in-Some.ensures.next.0 (cc (c.push_reserved-in-Err.ensures.items, boxes))
