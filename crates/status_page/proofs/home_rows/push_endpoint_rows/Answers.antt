use Rattle.std.proofs.Common.{◌≡◌, ◌++◌}
use Rattle.std.specs.String.{string_bytes}
use Rattle.status_page.specs.HomeRows.{endpoint_html}
use Rattle.status_page.proofs.Written.{next_of_each}
use Rattle.status_page.proofs.home_rows.push_endpoint_rows.Goals as goal

pub loop-row-preserved : goal.loop-row-preserved
loop-row-preserved c =
    let written : string_bytes c.push_endpoint.new.out
    ≡ string_bytes c.loop-row.out ++ endpoint_html c.args.clock c.row-item.result.value =
    cc (c.in_ok-push_endpoint.ensures, c.deref.ensures) in
    next_of_each (λ row. endpoint_html c.args.clock row.value) _ _ _ c.args.rows.now c.loop-row.row-index
    c.row-item.result c.loop-row-test.true c.row-item.is written c.loop-row.invariant
