use Rattle.std.specs.String.{string_bytes}
use Rattle.status_page.specs.HomeCounts.{rejects_html, rejects_parts}
use Rattle.status_page.proofs.Written.{glued}
use Rattle.status_page.proofs.home_counts.push_rejects.Goals as goal

pub returns : goal.returns
unfolding rejects_html
returns c = rw (
  c.in_ok-push_str-2.ensures.bytes,
  c.rejects_end.ensures,
  c.is_none_rejected.ensures,
  c.in_ok-push_reject_entries.ensures,
  c.in_ok-push_str.ensures.bytes,
)
    (glued (string_bytes c.args.out.now) (rejects_parts c.args.counts.now))
