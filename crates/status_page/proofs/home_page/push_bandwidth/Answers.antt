use Rattle.std.specs.String.{string_bytes}
use Rattle.status_page.specs.Home.{bandwidth_html, bandwidth_parts}
use Rattle.status_page.proofs.Written.{glued}
use Rattle.status_page.proofs.home_page.push_bandwidth.Goals as goal

pub returns : goal.returns
unfolding bandwidth_html
returns c = rw (
  c.in_ok-push_str-2.ensures.bytes,
  c.in_ok-push_pools.ensures,
  c.in_ok-push_bar.ensures,
  c.in_ok-push_str.ensures.bytes,
)
    (glued (string_bytes c.args.out.now) (bandwidth_parts c.args.figures.now c.args.pools.now))
