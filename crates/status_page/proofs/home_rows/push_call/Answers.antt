use Rattle.std.specs.String.{string_bytes}
use Rattle.status_page.specs.HomeRows.{call_cells, call_html}
use Rattle.status_page.proofs.Written.{glued}
use Rattle.status_page.proofs.home_rows.push_call.Goals as goal

pub returns : goal.returns
unfolding call_html
returns c = rw (
  c.in_ok-push_str-2.ensures.bytes,
  c.in_ok-push_key.ensures,
  c.in_ok-push_number-2.ensures,
  c.in_ok-push_tenths.ensures,
  c.from-2.ensures,
  c.in_ok-push_number.ensures,
  c.from.ensures,
  c.in_ok-push_second.ensures,
  c.in_ok-push_str.ensures.bytes,
  c.in_ok-push_html.ensures,
  c.as_slice.ensures.items,
)
    (glued (string_bytes c.args.out.now) (call_cells c.args.row.now))
