-- Which pools a server's orders name.
use Rattle.std.specs.Prelude.{ℕ, List}
use Rattle.pools.specs.declared.interface.Pool as pool
use Rattle.udp_server.specs.Orders.{Ordering, numbers_of, ordering}
use Rattle.udp_server.specs.Working.{Standing}
use Rattle.udp_server.specs.declared.orders.Orders.{Orders}

-- the numbers of the pools that these orders name, in the list's order
abbrev pub order_numbers : {P : Type 0} {ghosts : pool.Ghosts P} → Orders P ghosts → List ℕ
order_numbers orders = numbers_of orders.waiting.items orders.boxes.items

-- these orders, with how the worker stands that tries them
abbrev pub ordering_of : {P : Type 0} {ghosts : pool.Ghosts P} → Orders P ghosts → Standing
    → Ordering P
ordering_of orders worker = ordering orders.waiting.items orders.boxes.items worker
