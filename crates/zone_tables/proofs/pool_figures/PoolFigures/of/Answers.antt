use Rattle.std.proofs.Common.{◌∷◌, ◌++◌, ◌≤◌, [], ◌∙◌, take, sym, ap, subst, arith}
use Rattle.std.proofs.lemmas.List.{take_more}
use Rattle.std.proofs.lemmas.List.Elements.{All-take}
use Rattle.pools.specs.Account.{opening_account}
use Rattle.pools.specs.Members.{accounts_of}
use Rattle.zone_tables.specs.Pools.{AreWithinLimits, figures_of}
use Rattle.zone_tables.proofs.Members.{figures_there, length-figures, members_within}
use Rattle.zone_tables.proofs.pool_figures.PoolFigures.of.Goals as goal

pub loop-i-preserved : goal.loop-i-preserved
loop-i-preserved g c =
    let pools = c.args.pools.now in
    let i = c.loop-i.i in
    let fs = figures_of (accounts_of pools) in
    c.push.ensures.items
    ∙ (ap (λ xs. xs ++ c.figures.result ∷ []) c.loop-i.invariant
    ∙ (ap (λ f. take i fs ++ f ∷ []) (c.figures.ensures.value ∙ sym (figures_there pools i))
    ∙ sym (take_more fs i (opening_account 0).figures
    (omega (arith, length-figures pools, c.loop-i-test.true, c.len-i-end.ensures.value)))))

pub invariant_of-result : goal.invariant_of-result
invariant_of-result g c =
    subst AreWithinLimits (sym c.loop-i.invariant)
    (All-take (λ f. f.lent ≤ f.limit) c.loop-i.i (figures_of (accounts_of c.args.pools.now))
    (members_within c.args.pools.now c.len-i-end.ensures.sound.within_limits))

pub returns-clause-within : goal.returns-clause-within
returns-clause-within g c = invariant_of-result g c
