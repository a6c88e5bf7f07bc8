use Rattle.std.proofs.Common.{◌≡◌, ◌-◌, vec_len}
use Rattle.udp_server.specs.Orders.{all_back}
use Rattle.udp_server.proofs.orders.Orders.into_boxes.Given as goal

-- one order fewer waits for each one whose pool came back
abbrev pub invariant-loop : goal.invariant-loop
invariant-loop g l = record {
  all : all_back l.self.waiting.items l.self.boxes.items
      ≡ all_back l.fn.self.waiting.items l.fn.self.boxes.items;
  fewer : vec_len l.self.waiting ≡ vec_len l.fn.self.waiting - l.counter;
}
