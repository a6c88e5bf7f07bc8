use Rattle.std.specs.String.{string_bytes}
use Rattle.status_page.specs.HomeRows.{call_table, call_table_parts}
use Rattle.status_page.proofs.Written.{glued}
use Rattle.status_page.proofs.home_rows.push_call_table.Goals as goal

pub returns : goal.returns
unfolding call_table
returns c = rw (
  c.in_ok-push_str-3.ensures.bytes,
  c.in_ok-push_call_rows.ensures,
  c.in_ok-push_str-2.ensures.bytes,
  c.in_ok-push_str.ensures.bytes,
)
    (glued (string_bytes c.args.out.now) (call_table_parts c.args.rows.now))
