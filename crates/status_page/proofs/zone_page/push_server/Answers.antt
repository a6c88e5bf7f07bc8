use Rattle.std.specs.String.{string_bytes}
use Rattle.status_page.specs.JsonZone.{server_json, server_parts}
use Rattle.status_page.proofs.Written.{glued}
use Rattle.status_page.proofs.zone_page.push_server.Goals as goal

pub returns : goal.returns
unfolding server_json
returns c = cc (
  glued (string_bytes c.args.out.now) (server_parts c.args.server.now),
  c.in_ok-push_str.ensures.bytes,
  c.in_ok-push_number-6.ensures,
  c.in_ok-push_number-5.ensures,
  c.in_ok-push_number-4.ensures,
  c.in_ok-push_number-3.ensures,
  c.in_ok-push_number-2.ensures,
  c.in_ok-push_number.ensures,
)
