use Rattle.std.proofs.Common.{◌∷◌}
use Rattle.std.specs.String.{string_bytes}
use Rattle.status_page.specs.JsonZone.{reject_json, reject_parts}
use Rattle.status_page.proofs.Written.{glued}
use Rattle.status_page.proofs.zone_page.push_reject.Goals as goal

pub returns : goal.returns
unfolding reject_json
returns c = cc (
  glued (string_bytes c.args.out.now) (c.args.before.now ∷ reject_parts c.args.counts.now c.args.reject),
  c.in_ok-push_str-6.ensures.bytes,
  c.in_ok-push_number.ensures,
  c.in_ok-push_str-5.ensures.bytes,
  c.in_ok-push_str-4.ensures.bytes,
  c.in_ok-push_str-3.ensures.bytes,
  c.in_ok-push_str-2.ensures.bytes,
  c.in_ok-push_str.ensures.bytes,
  c.message.ensures,
  c.label.ensures,
  c.label-2.ensures,
  c.get.ensures,
)
