use Rattle.std.specs.String.{string_bytes}
use Rattle.status_page.specs.Metrics.{reject_sample, reject_sample_parts}
use Rattle.status_page.proofs.Written.{glued}
use Rattle.status_page.proofs.metrics_page.push_reject.Goals as goal

pub returns : goal.returns
unfolding reject_sample
returns c = cc (
  glued (string_bytes c.args.out.now) (reject_sample_parts c.args.reject c.args.number),
  c.in_ok-push_str-5.ensures.bytes,
  c.in_ok-push_number.ensures,
  c.in_ok-push_str-4.ensures.bytes,
  c.in_ok-push_str-3.ensures.bytes,
  c.in_ok-push_str-2.ensures.bytes,
  c.in_ok-push_str.ensures.bytes,
  c.message.ensures,
  c.label.ensures,
  c.label-2.ensures,
)
