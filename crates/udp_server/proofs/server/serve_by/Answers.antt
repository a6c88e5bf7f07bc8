use Rattle.std.proofs.Common.{◌≡◌, ◌∙◌, IfOk, ap}
use Rattle.udp_server.specs.OrderNumbers.{order_numbers}
use Rattle.udp_server.specs.Orders.{numbers_back}
use Rattle.udp_server.proofs.Each.{of_each}
use Rattle.udp_server.proofs.server.serve_by.Goals as goal

pub returns-in-Ok-run-clause-back : goal.returns-in-Ok-run-clause-back
returns-in-Ok-run-clause-back g c =
    of_each c.report_of.result (λ r. r.boxes ≡ c.in-Ok-run.record.boxes)
    (λ r. numbers_back r.boxes.items ≡ order_numbers c.args.crew.orders)
    (λ r same. ap (λ boxes. numbers_back boxes.items) same ∙ c.in-Ok-run.ensures)
    c.report_of.ensures.boxes
