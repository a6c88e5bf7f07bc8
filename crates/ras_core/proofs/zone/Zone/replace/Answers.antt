use Rattle.std.proofs.Common.{◌≡◌, ◌∙◌, ap, refl, subst, sym, None}
use Rattle.std.specs.Prelude.{MatchResult}
use Rattle.std.proofs.lemmas.Result.{err_from_is_err_and}
use Rattle.ras_machine.specs.Machine.{most_steps}
use Rattle.pools.specs.Members.{accounts_of}
use Rattle.zone_tables.specs.Pools.{figures_at, figures_of}
use Rattle.ras_machine.specs.Replacing.{Replaces}
use Rattle.ras_machine.specs.State.{State}
use Rattle.ras_core.specs.Running.{Running}
use Rattle.ras_core.specs.Replacing.{IsOldPool, IsRefusal, change_by, fault_unasked}
use Rattle.ras_core.specs.Tallies.{tallies_after_replacing, tallies_of}
use Rattle.ras_core.proofs.TakingOver.{figures_replaced, found_open, may_replace, old_pool, refusal}
use Rattle.ras_core.proofs.TakingOver.{tallies_replaced}
use Rattle.ras_core.proofs.zone.Zone.replace.Goals as goal

pub returns-in_err-old-clause-fault : goal.returns-in_err-old-clause-fault
returns-in_err-old-clause-fault g c =
    let i = c.self.inside in
    let fresh = g.P.Pool.account c.args.fresh in
    let told = err_from_is_err_and c.from_residual.result c.from_residual.ensures.1 in
    let is_open = found_open i.machine.steps most_steps c.is_closed.result c.is_closed.ensures
    c.if-is_closed.false in
    subst (λ r. MatchResult r (λ x. fault_unasked c.args.self.now.state c.args.pool fresh ≡ None)
    (λ refused. IsRefusal c.args.self.now.state c.args.pool fresh (g.P.Pool.account refused.0)
    refused.1)) (sym told.1)
    (subst (λ refused. IsRefusal c.args.self.now.state c.args.pool fresh
    (g.P.Pool.account refused.0) refused.1) (sym told.2)
    (subst (λ (r : Running). IsRefusal r.state c.args.pool fresh
    (g.P.Pool.account c.in_err-old.field-0.0.0) c.in_err-old.field-0.0.1) c.self.view_is
    (refusal i.pools i.machine c.args.pool fresh c.self.invariant.pools is_open
    (g.P.Pool.account c.in_err-old.field-0.0.0) c.in_err-old.field-0.0.1
    c.in_err-old.ensures.fault)))

pub replace_pool-requires-clause-may : goal.replace_pool-requires-clause-may
replace_pool-requires-clause-may g c =
    let i = c.self.inside in
    may_replace i.pools i.machine c.args.pool (g.P.Pool.account c.args.fresh) c.self.invariant.pools
    c.figures_of-offered.result c.figures_of-offered.ensures c.in_ok-old.ensures.fault
    c.in_ok-old.ensures.within

pub invariant_of-self-2 : goal.invariant_of-self-2
invariant_of-self-2 g c =
    let i = c.self.inside in record {
      sound = c.replace_pool.ensures.sound;
      pools = ap (λ members. figures_of (accounts_of members)) c.in_ok-old.ensures.after
          ∙ (figures_replaced i.pools i.machine c.args.pool (g.P.Pool.account c.args.fresh)
          c.self.invariant.pools c.figures_of-offered.result c.figures_of-offered.ensures
          ∙ sym (ap (λ (s : State). s.tables.pools) c.replace_pool.ensures.replaces.makes));
    }

pub returns-clause-tallies : goal.returns-clause-tallies
returns-clause-tallies g c =
    let i = c.self.inside in
    ap tallies_of c.in_ok-old.ensures.after
    ∙ (tallies_replaced i.pools i.machine c.args.pool (g.P.Pool.account c.args.fresh)
    c.self.invariant.pools
    ∙ ap (λ (r : Running). tallies_after_replacing r.tallies c.args.pool
    (g.P.Pool.account c.args.fresh) (figures_at r.state.tables.pools c.args.pool).lent)
    c.self.view_is)

pub returns-clause-step : goal.returns-clause-step
returns-clause-step g c =
    let fresh = g.P.Pool.account c.args.fresh in record {
      step = subst (λ (r : Running). Replaces r.state (change_by c.args.pool fresh c.args.moment)
          c.replace_pool.result c.replace_pool.new.self) c.self.view_is
          (subst (λ offered. Replaces c.self.inside.machine
          (record { pool = c.args.pool; offered = offered; moment = c.args.moment })
          c.replace_pool.result c.replace_pool.new.self) c.figures_of-offered.ensures
          c.replace_pool.ensures.replaces);
      fresh = fresh;
      offered = refl;
      tallies = returns-clause-tallies g c;
      sound = c.replace_pool.ensures.sound;
    }

pub returns-clause-old_pool : goal.returns-clause-old_pool
returns-clause-old_pool g c =
    let i = c.self.inside in
    subst (λ (r : Running). IsOldPool r c.args.pool (g.P.Pool.account c.in_ok-old.old))
    c.self.view_is
    (old_pool i.pools i.machine c.args.pool (g.P.Pool.account c.args.fresh) c.self.invariant.pools
    (g.P.Pool.account c.in_ok-old.old) c.in_ok-old.ensures.ok)
