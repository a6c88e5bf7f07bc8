use Rattle.std.specs.String.{string_bytes}
use Rattle.status_page.specs.Home.{endpoints_parts, endpoints_section}
use Rattle.status_page.proofs.Written.{glued}
use Rattle.status_page.proofs.home_page.push_endpoint_section.Goals as goal

pub returns : goal.returns
unfolding endpoints_section
returns c = rw (
  c.in_ok-push_str-3.ensures.bytes,
  c.in_ok-push_next_endpoints.ensures,
  c.in_ok-push_first_endpoints.ensures,
  c.in_ok-push_str-2.ensures.bytes,
  c.in_ok-push_endpoints.ensures,
  c.in_ok-push_str.ensures.bytes,
  c.in_ok-push_number.ensures,
  c.as_slice-rows.ensures.value,
)
    (glued (string_bytes c.args.out.now) (endpoints_parts c.args.query.now c.args.endpoints.now c.args.figures.now))
