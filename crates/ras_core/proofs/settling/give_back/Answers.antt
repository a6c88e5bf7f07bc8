use Rattle.std.proofs.Common.{◌<◌, ◌≤◌, ◌∙◌, length, subst, sym, arith}
use Rattle.pools.specs.declared.interface.Figures.{Figures}
use Rattle.pools.specs.Members.{accounts_of}
use Rattle.zone_tables.specs.Leaving.{IsSameButLent}
use Rattle.zone_tables.specs.Pools.{figures_at, figures_of}
use Rattle.zone_tables.proofs.Members.{figures_there, length-figures}
use Rattle.ras_core.proofs.settling.give_back.Goals as goal

pub give_back_to-requires-clause-same : goal.give_back_to-requires-clause-same
give_back_to-requires-clause-same g c =
    let i = c.loop-i.i in
    let below : i < length (figures_of (accounts_of c.args.pools.now)) = omega (
      arith,
      c.loop-i-test.true,
      c.len-i-end.ensures.value,
      length-figures c.args.pools.now,
    ) in
    let le_self : i ≤ i = omega arith in
    let here = sym (c.loop-i.invariant.rest i le_self) ∙ figures_there c.loop-i.pools i in
    subst (λ (f : Figures). IsSameButLent f c.get.result) here
    (subst
    (λ (f : Figures). IsSameButLent (figures_at (figures_of (accounts_of c.args.pools.now)) i) f)
    (sym c.get.ensures.same) (c.requires.same.same i below))
