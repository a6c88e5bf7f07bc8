use Rattle.std.specs.String.{string_bytes}
use Rattle.status_page.specs.Home.{tiles_html, tiles_parts}
use Rattle.status_page.proofs.Written.{glued}
use Rattle.status_page.proofs.home_page.push_tiles.Goals as goal

pub returns : goal.returns
unfolding tiles_html
returns c = rw (
  c.in_ok-push_str-2.ensures.bytes,
  c.in_ok-push_tile-4.ensures,
  c.in_ok-push_tile-3.ensures,
  c.in_ok-push_tile-2.ensures,
  c.in_ok-push_tile.ensures,
  c.in_ok-push_str.ensures.bytes,
)
    (glued (string_bytes c.args.out.now) (tiles_parts c.args.figures.now))
