use Rattle.std.proofs.Common.{◌≡◌, ◌<◌, ◌∙◌, length, slice_set, sym, ap, subst}
use Rattle.pools.specs.declared.interface.Figures.{Figures}
use Rattle.pools.specs.Account.{IsAnswer, figures_after_least}
use Rattle.zone_tables.specs.Pools.{AreWithinLimits, RequestedUnits, figures_at}
use Rattle.zone_tables.specs.Pools.{pools_after_answer}
use Rattle.zone_tables.proofs.OnePool.{AreWithinLimits-answer}
use Rattle.zone_tables.proofs.pool_figures.PoolFigures.note_answer.Goals as goal

pub invariant_of-self : goal.invariant_of-self
invariant_of-self c =
    let pools = c.self.inside.items.items in
    let i = c.args.i in
    let answer = c.args.answer in
    let ask : RequestedUnits = record { pool = i; units = c.args.units; least = c.args.least } in
    let after : c.put.new.items.items ≡ pools_after_answer pools ask answer =
    c.put.ensures ∙ ap (λ (f : Figures). slice_set pools i f) (c.after_answer-figures.ensures
    ∙ ap (λ (f : Figures). figures_after_least f ask.least answer) (c.get.ensures.same
    ∙ ap (λ fs. figures_at fs i) (sym c.self.view_is))) in
    subst AreWithinLimits (sym after)
    (AreWithinLimits-answer pools ask answer c.self.invariant
    (subst (λ fs. i < length fs) (sym c.self.view_is) c.requires.asked.exists)
    (subst (λ fs. IsAnswer (figures_at fs i) c.args.units answer) (sym c.self.view_is)
    c.requires.answer))

pub returns-clause-within : goal.returns-clause-within
returns-clause-within c = invariant_of-self c
