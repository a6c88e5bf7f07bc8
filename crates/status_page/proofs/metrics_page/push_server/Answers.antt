use Rattle.std.specs.String.{string_bytes}
use Rattle.status_page.specs.Metrics.{server_metric_parts, server_metrics}
use Rattle.status_page.proofs.Written.{glued}
use Rattle.status_page.proofs.metrics_page.push_server.Goals as goal

pub returns : goal.returns
unfolding server_metrics
returns c = cc (
  glued (string_bytes c.args.out.now) (server_metric_parts c.args.server.now),
  c.in_ok-push_counter-6.ensures,
  c.in_ok-push_counter-5.ensures,
  c.in_ok-push_counter-4.ensures,
  c.in_ok-push_counter-3.ensures,
  c.in_ok-push_counter-2.ensures,
  c.in_ok-push_counter.ensures,
)
