use Rattle.std.specs.String.{string_bytes}
use Rattle.status_page.specs.Metrics.{family, family_parts}
use Rattle.status_page.proofs.Written.{glued}
use Rattle.status_page.proofs.metrics_page.push_family.Goals as goal

pub returns : goal.returns
unfolding family
returns c = cc (
  glued (string_bytes c.args.out.now) (family_parts c.args.name.now c.args.kind c.args.help.now),
  c.in_ok-push_str-9.ensures.bytes,
  c.in_ok-push_str-8.ensures.bytes,
  c.in_ok-push_str-7.ensures.bytes,
  c.in_ok-push_str-6.ensures.bytes,
  c.in_ok-push_str-5.ensures.bytes,
  c.in_ok-push_str-4.ensures.bytes,
  c.in_ok-push_str-3.ensures.bytes,
  c.in_ok-push_str-2.ensures.bytes,
  c.in_ok-push_str.ensures.bytes,
  c.text.ensures,
)
