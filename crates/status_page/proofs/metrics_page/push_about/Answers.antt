use Rattle.std.specs.String.{string_bytes}
use Rattle.status_page.specs.Metrics.{about_metric, about_metric_parts}
use Rattle.status_page.proofs.Written.{glued}
use Rattle.status_page.proofs.metrics_page.push_about.Goals as goal

pub returns : goal.returns
unfolding about_metric
returns c = cc (
  glued (string_bytes c.args.out.now) (about_metric_parts c.args.about.now),
  c.in_ok-push_str-2.ensures.bytes,
  c.in_ok-push_address.ensures,
  c.in_ok-label.ensures.text,
  c.as_slice.ensures.items,
  c.in_ok-push_str.ensures.bytes,
  c.in_ok-push_family.ensures,
)
