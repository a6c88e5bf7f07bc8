use Rattle.std.proofs.Common.{[]}
use Rattle.status_page.specs.Home.{pool_title, pool_title_parts}
use Rattle.status_page.proofs.Written.{glued}
use Rattle.status_page.proofs.home_page.pool_title.Goals as goal

pub returns : goal.returns
unfolding pool_title
returns c = rw (
  c.in_ok-push_str.ensures.bytes,
  c.in_ok-push_number-3.ensures,
  c.in_ok-push_number-2.ensures,
  c.in_ok-push_number.ensures,
  c.new-title.ensures.bytes,
)
    (glued [] (pool_title_parts c.args.place c.args.pool.now))
