use Rattle.std.specs.String.{string_bytes}
use Rattle.status_page.specs.Metrics.{sample, sample_parts}
use Rattle.status_page.proofs.Written.{glued}
use Rattle.status_page.proofs.metrics_page.push_sample.Goals as goal

pub returns : goal.returns
unfolding sample
returns c = cc (
  glued (string_bytes c.args.out.now) (sample_parts c.args.name.now c.args.key.now c.args.value.now c.args.number),
  c.in_ok-push_str-6.ensures.bytes,
  c.in_ok-push_number.ensures,
  c.in_ok-push_str-5.ensures.bytes,
  c.in_ok-push_str-4.ensures.bytes,
  c.in_ok-push_str-3.ensures.bytes,
  c.in_ok-push_str-2.ensures.bytes,
  c.in_ok-push_str.ensures.bytes,
)
