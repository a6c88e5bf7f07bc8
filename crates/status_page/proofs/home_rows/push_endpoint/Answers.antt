use Rattle.std.specs.String.{string_bytes}
use Rattle.status_page.specs.HomeRows.{endpoint_cells, endpoint_html}
use Rattle.status_page.proofs.Written.{glued}
use Rattle.status_page.proofs.home_rows.push_endpoint.Goals as goal

pub returns : goal.returns
unfolding endpoint_html
returns c = rw (
  c.in_ok-push_str-4.ensures.bytes,
  c.in_ok-push_span-2.ensures,
  c.saturating_sub-2.ensures,
  c.in_ok-push_str-3.ensures.bytes,
  c.in_ok-push_span.ensures,
  c.saturating_sub.ensures,
  c.in_ok-push_str-2.ensures.bytes,
  c.in_ok-push_number.ensures,
  c.in_ok-push_address-2.ensures,
  c.in_ok-push_address.ensures,
  c.in_ok-push_aliases.ensures,
  c.as_slice-2.ensures,
  c.in_ok-push_str.ensures.bytes,
  c.in_ok-push_html.ensures,
  c.as_slice.ensures.items,
)
    (glued (string_bytes c.args.out.now) (endpoint_cells c.args.clock c.args.row.now))
