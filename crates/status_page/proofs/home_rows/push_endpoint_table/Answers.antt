use Rattle.std.specs.String.{string_bytes}
use Rattle.status_page.specs.HomeRows.{endpoint_table, endpoint_table_parts}
use Rattle.status_page.proofs.Written.{glued}
use Rattle.status_page.proofs.home_rows.push_endpoint_table.Goals as goal

pub returns : goal.returns
unfolding endpoint_table
returns c = rw (
  c.in_ok-push_str-3.ensures.bytes,
  c.in_ok-push_endpoint_rows.ensures,
  c.in_ok-push_str-2.ensures.bytes,
  c.in_ok-push_str.ensures.bytes,
)
    (glued (string_bytes c.args.out.now) (endpoint_table_parts c.args.clock c.args.rows.now))
