use Rattle.std.proofs.Common.{[]}
use Rattle.status_page.specs.Home.{home_parts, home_text}
use Rattle.status_page.proofs.Written.{glued}
use Rattle.status_page.proofs.home_page.home.Goals as goal

pub returns-clause-text : goal.returns-clause-text
unfolding home_text
returns-clause-text c = rw (
  c.found.ensures,
  c.in_ok-push_foot.ensures,
  c.in_ok-push_counts.ensures,
  c.in_ok-push_call_section.ensures,
  c.in_ok-push_endpoint_section.ensures,
  c.in_ok-push_bandwidth.ensures,
  c.as_slice.ensures.value,
  c.in_ok-push_tiles.ensures,
  c.in_ok-push_header.ensures,
  c.in_ok-push_title.ensures,
  c.new-text.ensures.bytes,
)
    (glued [] (home_parts c.args.about.now c.args.overview.now c.args.query.now c.args.endpoints.now c.args.calls.now))
