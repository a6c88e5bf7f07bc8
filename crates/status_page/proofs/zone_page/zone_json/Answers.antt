use Rattle.std.proofs.Common.{[]}
use Rattle.status_page.specs.JsonZone.{zone_parts, zone_text}
use Rattle.status_page.proofs.Written.{glued}
use Rattle.status_page.proofs.zone_page.zone_json.Goals as goal

pub returns-clause-text : goal.returns-clause-text
unfolding zone_text
returns-clause-text c = rw (
  c.found.ensures,
  c.in_ok-push_str-5.ensures.bytes,
  c.in_ok-push_server.ensures,
  c.in_ok-push_str-4.ensures.bytes,
  c.in_ok-push_counts.ensures,
  c.in_ok-push_str-3.ensures.bytes,
  c.in_ok-push_pools.ensures,
  c.as_slice.ensures.value,
  c.in_ok-push_str-2.ensures.bytes,
  c.in_ok-push_figures.ensures,
  c.in_ok-push_about.ensures,
  c.in_ok-push_str.ensures.bytes,
  c.new-text.ensures.bytes,
)
    (glued [] (zone_parts c.args.about.now c.args.overview.now))
