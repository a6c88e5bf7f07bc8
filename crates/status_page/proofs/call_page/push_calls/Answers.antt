use Rattle.std.proofs.Common.{◌≡◌, ◌++◌, [], ◌∷◌, codes, refl}
use Rattle.std.specs.String.{string_bytes}
use Rattle.status_page.specs.JsonRows.{call_json}
use Rattle.status_page.proofs.Written.{comma, next_listed}
use Rattle.status_page.proofs.call_page.push_calls.Goals as goal

pub loop-row-preserved : goal.loop-row-preserved
loop-row-preserved c =
    let written : string_bytes c.push_call.new.out ≡ string_bytes c.loop-row.out ++ (c.loop-row.before.now ++ call_json c.row-item.result.value) = cc (c.in_ok-push_call.ensures, c.deref.ensures) in
    record {
      text = next_listed (codes ",") (λ row. call_json row.value) c.loop-row.before.now _ _ _ c.args.rows.now c.loop-row.row-index
          c.row-item.result c.loop-row-test.true c.row-item.is written c.loop-row.invariant.text;
      is_text = (44 ∷ [], (refl, comma));
    }
