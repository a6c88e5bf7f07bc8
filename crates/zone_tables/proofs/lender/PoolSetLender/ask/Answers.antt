use Rattle.std.proofs.Common.{◌∙◌, ◌<◌, ◌^◌, sym, ap, subst}
use Rattle.pools.specs.declared.interface.Figures.{Figures}
use Rattle.pools.specs.Account.{IsAnswer}
use Rattle.zone_tables.specs.Pools.{figures_at}
use Rattle.zone_tables.proofs.Members.{figures_there}
use Rattle.zone_tables.proofs.lender.PoolSetLender.ask.Goals as goal

pub lend_least-requires-clause-may : goal.lend_least-requires-clause-may
lend_least-requires-clause-may g c =
    let may = c.requires.may in
    let here = sym (figures_there c.args.self.now c.args.pool)
    ∙ ap (λ fs. figures_at fs c.args.pool) c.requires.figures in
    record {
      at_least_one = may.at_least_one;
      at_most_bandwidth = may.at_most_bandwidth;
      refusals_below = subst (λ (f : Figures). f.refusals < 2 ^ 63) (sym here) may.refusals_below;
      waits_below = subst (λ (f : Figures). f.waits < 2 ^ 63) (sym here) may.waits_below;
    }

pub returns-clause-answer : goal.returns-clause-answer
returns-clause-answer g c =
    let here = sym (figures_there c.args.self.now c.args.pool)
    ∙ ap (λ fs. figures_at fs c.args.pool) c.requires.figures in
    subst (λ (f : Figures). IsAnswer f c.args.units c.lend_least.result.0) here c.lend_least.ensures.answer
