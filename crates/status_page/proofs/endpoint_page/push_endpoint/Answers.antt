use Rattle.std.proofs.Common.{◌∷◌}
use Rattle.std.specs.String.{string_bytes}
use Rattle.status_page.specs.JsonRows.{endpoint_json, endpoint_parts}
use Rattle.status_page.proofs.Written.{glued}
use Rattle.status_page.proofs.endpoint_page.push_endpoint.Goals as goal

pub returns : goal.returns
unfolding endpoint_json
returns c = rw (
  c.in_ok-push_str-3.ensures.bytes,
  c.in_ok-push_number-4.ensures,
  c.in_ok-push_number-3.ensures,
  c.in_ok-push_number-2.ensures,
  c.in_ok-push_number.ensures,
  c.in_ok-push_aliases.ensures,
  c.as_slice-2.ensures,
  c.in_ok-push_str-2.ensures.bytes,
  c.in_ok-push_address-2.ensures,
  c.in_ok-push_address.ensures,
  c.in_ok-push_json.ensures,
  c.as_slice.ensures.items,
  c.in_ok-push_str.ensures.bytes,
)
    (glued (string_bytes c.args.out.now) (c.args.before.now ∷ endpoint_parts c.args.row.now))
