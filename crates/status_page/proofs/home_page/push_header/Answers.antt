use Rattle.std.specs.String.{string_bytes}
use Rattle.status_page.specs.Home.{header_html, header_parts}
use Rattle.status_page.proofs.Written.{glued}
use Rattle.status_page.proofs.home_page.push_header.Goals as goal

pub returns : goal.returns
unfolding header_html
returns c = rw (
  c.in_ok-push_str-3.ensures.bytes,
  c.in_ok-push_str-2.ensures.bytes,
  c.in_ok-push_span.ensures,
  c.in_ok-push_str.ensures.bytes,
  c.in_ok-push_address.ensures,
  c.in_ok-push_html.ensures,
  c.as_slice.ensures.items,
)
    (glued (string_bytes c.args.out.now) (header_parts c.args.about.now c.args.clock))
