use Rattle.std.specs.String.{string_bytes}
use Rattle.status_page.specs.JsonZone.{figure_parts, figures_json}
use Rattle.status_page.proofs.Written.{glued}
use Rattle.status_page.proofs.zone_page.push_figures.Goals as goal

pub returns : goal.returns
unfolding figures_json
returns c = cc (
  glued (string_bytes c.args.out.now) (figure_parts c.args.figures.now),
  c.in_ok-push_number-7.ensures,
  c.in_ok-push_number-6.ensures,
  c.in_ok-push_number-5.ensures,
  c.in_ok-push_number-4.ensures,
  c.in_ok-push_number-3.ensures,
  c.in_ok-push_number-2.ensures,
  c.in_ok-push_number.ensures,
)
