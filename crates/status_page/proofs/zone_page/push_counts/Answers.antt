use Rattle.std.specs.String.{string_bytes}
use Rattle.status_page.specs.JsonZone.{count_parts, counts_json}
use Rattle.status_page.proofs.Written.{glued}
use Rattle.status_page.proofs.zone_page.push_counts.Goals as goal

pub returns : goal.returns
unfolding counts_json
returns c = cc (
  glued (string_bytes c.args.out.now) (count_parts c.args.counts.now),
  c.in_ok-push_str-2.ensures.bytes,
  c.in_ok-push_number.ensures,
  c.in_ok-push_members-5.ensures,
  c.in_ok-push_members-4.ensures,
  c.in_ok-push_members-3.ensures,
  c.in_ok-push_rejects.ensures,
  c.in_ok-push_str.ensures.bytes,
  c.in_ok-push_members-2.ensures,
  c.in_ok-push_members.ensures,
  c.requests.ensures,
  c.replies.ensures,
  c.ignored.ensures,
  c.turns.ensures,
  c.answers.ensures,
  c.get.ensures,
)
