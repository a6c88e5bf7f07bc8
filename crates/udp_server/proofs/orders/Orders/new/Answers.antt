use Rattle.udp_server.proofs.Numbers.{none_tried}
use Rattle.udp_server.proofs.orders.Orders.new.Goals as goal

-- the orders wait in the other order
pub returns : goal.returns
returns g c =
    none_tried c.args.orders.items c.reverse.new.self.items c.in_ok-boxes.boxes.items
    c.reverse.ensures.items c.in_ok-boxes.ensures.items
