use Rattle.std.specs.String.{string_bytes}
use Rattle.status_page.specs.Metrics.{figure_metric_parts, figure_metrics}
use Rattle.status_page.proofs.Written.{glued}
use Rattle.status_page.proofs.metrics_page.push_figures.Goals as goal

pub returns : goal.returns
unfolding figure_metrics
returns c = cc (
  glued (string_bytes c.args.out.now) (figure_metric_parts c.args.figures.now),
  c.in_ok-push_gauge-6.ensures,
  c.in_ok-push_gauge-5.ensures,
  c.in_ok-push_gauge-4.ensures,
  c.in_ok-push_gauge-3.ensures,
  c.in_ok-push_gauge-2.ensures,
  c.in_ok-push_counter.ensures,
  c.in_ok-push_gauge.ensures,
)
