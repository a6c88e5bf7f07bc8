use Rattle.std.proofs.Common.{◌∙◌, ap, sym}
use Rattle.pools.specs.Members.{accounts_of}
use Rattle.zone_tables.specs.Pools.{figures_of}
use Rattle.ras_core.specs.Tallies.{tallies_after_turn, tallies_of}
use Rattle.ras_core.specs.inside.PoolTurns.{tallies_turned}
use Rattle.ras_core.proofs.Members.{figures-turn, tallies-turn}
use Rattle.ras_core.proofs.settling.settle.Goals as goal

pub returns-then-turn-clause-figures : goal.returns-then-turn-clause-figures
returns-then-turn-clause-figures g c =
    ap (λ ms. figures_of (accounts_of ms)) c.turn.ensures.after
    ∙ (figures-turn c.give_back.new.pools ∙ c.give_back.ensures.figures)

pub returns-then-turn-clause-tallies : goal.returns-then-turn-clause-tallies
returns-then-turn-clause-tallies g c =
    ap tallies_of c.turn.ensures.after
    ∙ (tallies-turn c.give_back.new.pools
    ∙ (ap tallies_after_turn c.give_back.ensures.tallies
    ∙ ap (tallies_turned (tallies_of c.args.pools.now)) (sym c.if-turn.true)))
