use Rattle.std.specs.String.{string_bytes}
use Rattle.status_page.specs.HomeCounts.{count_parts, counts_html}
use Rattle.status_page.proofs.Written.{glued}
use Rattle.status_page.proofs.home_counts.push_counts.Goals as goal

pub returns : goal.returns
unfolding counts_html
returns c = rw (
  c.in_ok-push_str-2.ensures.bytes,
  c.in_ok-push_server.ensures,
  c.get.ensures,
  c.in_ok-push_list-5.ensures,
  c.answers.ensures,
  c.in_ok-push_list-4.ensures,
  c.turns.ensures,
  c.in_ok-push_list-3.ensures,
  c.ignored.ensures,
  c.in_ok-push_rejects.ensures,
  c.in_ok-push_list-2.ensures,
  c.replies.ensures,
  c.in_ok-push_list.ensures,
  c.requests.ensures,
  c.in_ok-push_str.ensures.bytes,
)
    (glued (string_bytes c.args.out.now) (count_parts c.args.counts.now c.args.server.now))
