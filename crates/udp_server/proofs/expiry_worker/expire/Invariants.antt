use Rattle.std.proofs.Common.{◌≡◌}
use Rattle.udp_server.specs.OrderNumbers.{order_numbers}
use Rattle.udp_server.proofs.expiry_worker.expire.Given as goal

-- no order goes
abbrev pub invariant-loop : goal.invariant-loop
invariant-loop g l = order_numbers l.orders ≡ order_numbers l.fn.orders
