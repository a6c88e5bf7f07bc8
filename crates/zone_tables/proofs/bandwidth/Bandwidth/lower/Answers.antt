use Rattle.std.proofs.Common.{◌≡◌, sym, ap, ◌∙◌, subst, arith}
use Rattle.keyed.specs.Maps.{update}
use Rattle.admission.specs.Calls.{with_units}
use Rattle.zone_tables.specs.Changes.{IsLowerable}
use Rattle.zone_tables.specs.Parts.{Lending, with_usage}
use Rattle.zone_tables.specs.Pools.{pools_after_return}
use Rattle.zone_tables.proofs.Answered.{on_ok}
use Rattle.zone_tables.proofs.Backing.{IsSoundUsage-held}
use Rattle.zone_tables.proofs.Backing.{IsBacked-is, IsBacked-lower, back_is_lent, usage_in}
use Rattle.zone_tables.proofs.bandwidth.Bandwidth.lower.Goals as goal

pub take_back-requires-clause-lent : goal.take_back-requires-clause-lent
take_back-requires-clause-lent c =
    let i = c.self.inside in
    let u = usage_in i.calls i.pools i.limit i.call_limit in
    let can = subst (λ (l : Lending). IsLowerable l.usage.calls c.args.key.now c.args.units
    c.args.pool c.args.back)
    (sym c.self.view_is) c.requires in
    omega (
      arith,
      back_is_lent u c.self.invariant.backed c.args.key.now c.args.units c.args.pool
          c.args.back can,
      c.from.ensures,
    )

pub invariant_of-self : goal.invariant_of-self
invariant_of-self c =
    let i = c.self.inside in
    let u = usage_in i.calls i.pools i.limit i.call_limit in
    let can = subst (λ (l : Lending). IsLowerable l.usage.calls c.args.key.now c.args.units
    c.args.pool c.args.back)
    (sym c.self.view_is) c.requires in
    let lowered =
    on_ok c.set_units.result c.unwrap.result c.unwrap.ensures c.set_units.ensures.ok in
    IsSoundUsage-held c.set_units.new.self c.take_back.new.self i.limit i.call_limit
    (IsBacked-is (with_usage u _ (pools_after_return u.pools c.args.pool c.args.back))
    c.set_units.new.self.calls (c.take_back.new.self) c.set_units.new.self.most
    (IsBacked-lower u c.self.invariant.backed c.args.key.now c.args.units c.args.pool
    c.args.back can)
    lowered.rows
    (c.take_back.ensures.after ∙ ap (pools_after_return u.pools c.args.pool) c.from.ensures)
    lowered.most)
    (lowered.sound) c.take_back.ensures.within

pub returns : goal.returns
returns c =
    let i = c.self.inside in
    let u = usage_in i.calls i.pools i.limit i.call_limit in
    let lowered =
    on_ok c.set_units.result c.unwrap.result c.unwrap.ensures c.set_units.ensures.ok in
    let pools = c.take_back.ensures.after
    ∙ ap (pools_after_return u.pools c.args.pool) c.from.ensures in
    subst (λ (l : Lending). usage_in c.set_units.new.self c.take_back.new.self i.limit i.call_limit
    ≡ with_usage l.usage (update l.usage.calls c.args.key.now (with_units c.args.units))
    (pools_after_return l.usage.pools c.args.pool c.args.back)) c.self.view_is
    (λ j. record {
      calls = lowered.rows j;
      pools = pools j;
      most = lowered.most j;
      limit = i.limit;
      call_limit = i.call_limit;
    })
