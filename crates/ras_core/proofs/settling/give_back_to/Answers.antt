use Rattle.std.proofs.Common.{◌∙◌, ap}
use Rattle.pools.specs.Members.{accounts_of}
use Rattle.zone_tables.specs.Pools.{figures_of}
use Rattle.ras_core.specs.Tallies.{tallies_of}
use Rattle.ras_core.proofs.Members.{figures-kept, figures-return, returned, tallies-return}
use Rattle.ras_core.proofs.settling.give_back_to.Goals as goal

pub returns-then-back-gt0-clause-figures : goal.returns-then-back-gt0-clause-figures
returns-then-back-gt0-clause-figures g c =
    ap (λ ms. figures_of (accounts_of ms)) c.take_back.ensures.after
    ∙ (figures-return c.args.pools.now c.args.i _
    ∙ returned c.args.pools.now c.args.i c.figures.result c.args.figures c.figures.ensures.value
    c.requires.same)

pub returns-then-back-gt0-clause-tallies : goal.returns-then-back-gt0-clause-tallies
returns-then-back-gt0-clause-tallies g c =
    ap tallies_of c.take_back.ensures.after ∙ tallies-return c.args.pools.now c.args.i _

pub returns-else-back-gt0-clause-figures : goal.returns-else-back-gt0-clause-figures
returns-else-back-gt0-clause-figures g c =
    figures-kept c.args.pools.now c.args.i c.figures.result c.args.figures c.figures.ensures.value
    c.requires.same c.if-back-gt0.false
