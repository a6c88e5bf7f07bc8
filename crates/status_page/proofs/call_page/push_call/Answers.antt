use Rattle.std.proofs.Common.{◌∷◌}
use Rattle.std.specs.String.{string_bytes}
use Rattle.status_page.specs.JsonRows.{call_json, call_parts}
use Rattle.status_page.proofs.Written.{glued}
use Rattle.status_page.proofs.call_page.push_call.Goals as goal

pub returns : goal.returns
unfolding call_json
returns c = cc (
  glued (string_bytes c.args.out.now) (c.args.before.now ∷ call_parts c.args.row.now),
  c.in_ok-push_str-3.ensures.bytes,
  c.in_ok-push_second.ensures,
  c.in_ok-push_str-2.ensures.bytes,
  c.in_ok-push_json.ensures,
  c.in_ok-push_number-2.ensures,
  c.in_ok-push_number.ensures,
  c.in_ok-push_key.ensures,
  c.in_ok-push_str.ensures.bytes,
  c.from.ensures,
  c.as_slice.ensures.items,
)
