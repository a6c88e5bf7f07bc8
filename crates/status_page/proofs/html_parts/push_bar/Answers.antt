use Rattle.std.specs.String.{string_bytes}
use Rattle.status_page.specs.HomeParts.{bar_html, bar_parts}
use Rattle.status_page.proofs.Written.{glued}
use Rattle.status_page.proofs.html_parts.push_bar.Goals as goal

pub returns : goal.returns
unfolding bar_html
returns c = rw (
  c.in_ok-push_str-5.ensures.bytes,
  c.in_ok-push_tenths-4.ensures,
  c.in_ok-push_tenths-3.ensures,
  c.in_ok-push_number-2.ensures,
  c.in_ok-push_number.ensures,
  c.in_ok-push_tenths-2.ensures,
  c.in_ok-push_str-4.ensures.bytes,
  c.shade.ensures,
  c.in_ok-push_str-3.ensures.bytes,
  c.in_ok-push_tenths.ensures,
  c.thousandths-share.ensures,
  c.in_ok-push_str-2.ensures.bytes,
  c.in_ok-push_str.ensures.bytes,
)
    (glued (string_bytes c.args.out.now) (bar_parts c.args.title.now c.args.in_use c.args.limit))
