use Rattle.std.specs.String.{string_bytes}
use Rattle.status_page.specs.Home.{foot_html, foot_parts}
use Rattle.status_page.proofs.Written.{glued}
use Rattle.status_page.proofs.home_page.push_foot.Goals as goal

pub returns : goal.returns
unfolding foot_html
returns c = rw (
  c.in_ok-push_str-4.ensures.bytes,
  c.in_ok-push_str-3.ensures.bytes,
  c.in_ok-push_str-2.ensures.bytes,
  c.in_ok-push_str.ensures.bytes,
)
    (glued (string_bytes c.args.out.now) foot_parts)
