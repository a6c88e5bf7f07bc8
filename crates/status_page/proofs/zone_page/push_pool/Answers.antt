use Rattle.std.proofs.Common.{◌∷◌}
use Rattle.std.specs.String.{string_bytes}
use Rattle.status_page.specs.JsonZone.{pool_json, pool_parts}
use Rattle.status_page.proofs.Written.{glued}
use Rattle.status_page.proofs.zone_page.push_pool.Goals as goal

pub returns : goal.returns
unfolding pool_json
returns c = cc (
  glued (string_bytes c.args.out.now) (c.args.before.now ∷ pool_parts c.args.pool.now),
  c.in_ok-push_str-2.ensures.bytes,
  c.in_ok-push_number-4.ensures,
  c.in_ok-push_number-3.ensures,
  c.in_ok-push_number-2.ensures,
  c.in_ok-push_number.ensures,
  c.in_ok-push_str.ensures.bytes,
)
