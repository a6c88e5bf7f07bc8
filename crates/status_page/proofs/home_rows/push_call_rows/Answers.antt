use Rattle.std.proofs.Common.{◌≡◌, ◌++◌}
use Rattle.std.specs.String.{string_bytes}
use Rattle.status_page.specs.HomeRows.{call_html}
use Rattle.status_page.proofs.Written.{next_of_each}
use Rattle.status_page.proofs.home_rows.push_call_rows.Goals as goal

pub loop-row-preserved : goal.loop-row-preserved
loop-row-preserved c =
    let written : string_bytes c.push_call.new.out
    ≡ string_bytes c.loop-row.out ++ call_html c.row-item.result.value =
    cc (c.in_ok-push_call.ensures, c.deref.ensures) in
    next_of_each (λ row. call_html row.value) _ _ _ c.args.rows.now c.loop-row.row-index
    c.row-item.result c.loop-row-test.true c.row-item.is written c.loop-row.invariant
