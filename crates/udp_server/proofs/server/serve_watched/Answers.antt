use Rattle.std.proofs.Common.{◌≡◌, ◌∙◌, arith, refl, vec_len}
use Rattle.udp_server.specs.OrderNumbers.{order_numbers}
use Rattle.udp_server.specs.Orders.{AreOfOrders, numbers_back}
use Rattle.udp_server.proofs.Each.{of_each}
use Rattle.udp_server.specs.Faults.{AreCounts}
use Rattle.udp_server.proofs.server.serve_watched.Goals as goal
use Rattle.udp_server.proofs.server.serve_watched.Goals.{then-len-count-via-then-len-count}
use Rattle.udp_server.proofs.server.serve_watched.Goals.{then-len-count-via-else-len-count+then-len-count-2}
use Rattle.udp_server.proofs.server.serve_watched.Goals.{then-len-count-via-else-len-count+else-len-count-2+then-len-count-3}

pub returns-then-len-count-clause-wrong_counts : goal.returns-then-len-count-clause-wrong_counts
returns-then-len-count-clause-wrong_counts g c = (
  λ is counts. elim c.then-len-count.branch [
    | then-len-count-via-then-len-count w ↦ omega (
      arith,
      counts.one_more,
      c.len-count.ensures,
      c.len.ensures,
      w.if-len-count.true,
    )
    | then-len-count-via-else-len-count+then-len-count-2 w ↦ omega (
      arith,
      counts.one_more,
      c.len-count.ensures,
      w.len-else-len-count.ensures,
      w.if-len-count-2.true,
    )
    | then-len-count-via-else-len-count+else-len-count-2+then-len-count-3 w ↦ omega (
      arith,
      counts.clock_each,
      c.len-count.ensures,
      w.len-else-len-count-2.ensures,
      w.if-len-count-3.true,
    )
  ],
  λ is_wrong. refl,
)

pub returns-clause-back : goal.returns-clause-back
returns-clause-back g c =
    of_each c.serve_by.result
    (λ r. numbers_back r.boxes.items ≡ order_numbers c.in-Ok.crew.orders)
    (λ r. AreOfOrders r.boxes.items c.args.orders.items) (λ r all. all ∙ c.in-Ok.ensures.orders)
    c.serve_by.ensures.back

pub returns-clause-wrong_counts : goal.returns-clause-wrong_counts
returns-clause-wrong_counts g c =
    let counts : AreCounts (vec_len c.args.seats) (vec_len c.args.receivers)
    (vec_len c.args.clocks) = record {
      one_more = omega (
        arith,
        c.len-count.ensures,
        c.len.ensures,
        c.len-else-len-count.ensures,
        c.if-len-count.false,
        c.if-len-count-2.false,
      );
      clock_each = omega (
        arith,
        c.len-count.ensures,
        c.len-else-len-count-2.ensures,
        c.if-len-count-3.false,
      );
    } in
    (λ is is_right. c.serve_by.ensures.counts is, λ is_wrong. absurd (is_wrong counts))
