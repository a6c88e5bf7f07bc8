use Rattle.std.specs.String.{string_bytes}
use Rattle.status_page.specs.Metrics.{count_metric_parts, count_metrics}
use Rattle.status_page.proofs.Written.{glued}
use Rattle.status_page.proofs.metrics_page.push_counts.Goals as goal

pub returns : goal.returns
unfolding count_metrics
returns c = cc (
  glued (string_bytes c.args.out.now) (count_metric_parts c.args.counts.now),
  c.in_ok-push_counter.ensures,
  c.in_ok-push_labelled-5.ensures,
  c.in_ok-push_labelled-4.ensures,
  c.in_ok-push_labelled-3.ensures,
  c.in_ok-push_rejects.ensures,
  c.in_ok-push_labelled-2.ensures,
  c.in_ok-push_labelled.ensures,
  c.requests.ensures,
  c.replies.ensures,
  c.ignored.ensures,
  c.turns.ensures,
  c.answers.ensures,
  c.get.ensures,
)
