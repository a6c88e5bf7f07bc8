use Rattle.std.proofs.Common.{option_copied}
use Rattle.std.specs.String.{string_bytes}
use Rattle.status_page.specs.HomeParts.{link_html, link_parts}
use Rattle.status_page.proofs.Written.{glued}
use Rattle.status_page.proofs.html_parts.push_link.Goals as goal

pub returns : goal.returns
unfolding link_html
returns c = cc (
  glued (string_bytes c.args.out.now) (link_parts c.args.words.now (option_copied c.args.endpoint) c.args.call),
  c.in_ok-push_str-4.ensures.bytes,
  c.in_ok-push_str-3.ensures.bytes,
  c.in_ok-push_str-2.ensures.bytes,
  c.in_ok-push_calls_behind.ensures,
  c.in_ok-push_endpoints_behind.ensures,
  c.in_ok-push_str.ensures.bytes,
)
