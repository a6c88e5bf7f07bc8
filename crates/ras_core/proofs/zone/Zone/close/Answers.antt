use Rattle.std.proofs.Common.{map, ◌∙◌, ap}
use Rattle.pools.specs.Members.{accounts_of}
use Rattle.zone_tables.specs.Pools.{figures_of}
use Rattle.ras_core.specs.Running.{Running}
use Rattle.ras_core.specs.Tallies.{figures_without_loans, lasts_of}
use Rattle.ras_core.proofs.Members.{figures-close, lasts-close}
use Rattle.ras_core.proofs.zone.Zone.close.Goals as goal

pub returns-clause-figures : goal.returns-clause-figures
returns-clause-figures g c =
    ap figures_of c.close.ensures.accounts
    ∙ (figures-close (accounts_of c.self.inside.pools)
    ∙ (ap figures_without_loans c.self.invariant.pools
    ∙ ap (λ (r : Running). figures_without_loans r.state.tables.pools) c.self.view_is))

pub returns-clause-lasts : goal.returns-clause-lasts
returns-clause-lasts g c =
    ap lasts_of c.close.ensures.accounts
    ∙ (lasts-close c.self.inside.pools
    ∙ ap (λ (r : Running). map (λ t. t.last) r.tallies) c.self.view_is)
