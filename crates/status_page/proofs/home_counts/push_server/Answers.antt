use Rattle.std.specs.String.{string_bytes}
use Rattle.status_page.specs.HomeCounts.{server_html, server_parts}
use Rattle.status_page.proofs.Written.{glued}
use Rattle.status_page.proofs.home_counts.push_server.Goals as goal

pub returns : goal.returns
unfolding server_html
returns c = rw (
  c.in_ok-push_str-2.ensures.bytes,
  c.in_ok-push_entry-7.ensures,
  c.in_ok-push_entry-6.ensures,
  c.in_ok-push_entry-5.ensures,
  c.in_ok-push_entry-4.ensures,
  c.in_ok-push_entry-3.ensures,
  c.in_ok-push_entry-2.ensures,
  c.in_ok-push_entry.ensures,
  c.in_ok-push_str.ensures.bytes,
)
    (glued (string_bytes c.args.out.now) (server_parts c.args.server.now c.args.repeats))
