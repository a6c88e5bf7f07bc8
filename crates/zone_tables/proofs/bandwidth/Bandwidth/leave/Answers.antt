use Rattle.std.proofs.Common.{◌≡◌, sym, ap, ◌∙◌, subst, arith}
use Rattle.admission.specs.Calls.{after_leave, freed_by_leave}
use Rattle.zone_tables.specs.Parts.{Lending, with_usage}
use Rattle.zone_tables.specs.Pools.{pools_after_return, pools_after_end}
use Rattle.zone_tables.proofs.Answered.{on_ok}
use Rattle.zone_tables.proofs.Backing.{IsSoundUsage-held}
use Rattle.zone_tables.proofs.Backing.{IsBacked-is, IsBacked-leave, call_left, freed_as}
use Rattle.zone_tables.proofs.Backing.{freed_is_lent}
use Rattle.zone_tables.proofs.Backing.{freed_pool, usage_in}
use Rattle.zone_tables.proofs.bandwidth.Bandwidth.leave.Goals as goal

pub take_back-requires-clause-pool : goal.take_back-requires-clause-pool
take_back-requires-clause-pool c =
    let i = c.self.inside in
    let u = usage_in i.calls i.pools i.limit i.call_limit in
    let call = call_left _ _ c.self.view_is c.args.key.now c.args.endpoint.now c.requires in
    let freed = freed_as c.leave.result c.unwrap-left.result c.unwrap-left.ensures _ _
    c.leave.ensures.ended c.in-Some.is in
    omega (
      arith,
      freed_pool u c.self.invariant.backed c.args.key.now c.args.endpoint.now call.0 call.1
          (c.in-Some.pool, c.in-Some.units) freed,
    )

pub take_back-requires-clause-lent : goal.take_back-requires-clause-lent
take_back-requires-clause-lent c =
    let i = c.self.inside in
    let u = usage_in i.calls i.pools i.limit i.call_limit in
    let call = call_left _ _ c.self.view_is c.args.key.now c.args.endpoint.now c.requires in
    let freed = freed_as c.leave.result c.unwrap-left.result c.unwrap-left.ensures _ _
    c.leave.ensures.ended c.in-Some.is in
    omega (
      arith,
      freed_is_lent u c.self.invariant.backed c.args.key.now c.args.endpoint.now call.0 call.1
          (c.in-Some.pool, c.in-Some.units) freed,
      c.from.ensures,
    )

pub invariant_of-self : goal.invariant_of-self
invariant_of-self c =
    let i = c.self.inside in
    let u = usage_in i.calls i.pools i.limit i.call_limit in
    let call = call_left _ _ c.self.view_is c.args.key.now c.args.endpoint.now c.requires in
    let freed = freed_as c.leave.result c.unwrap-left.result c.unwrap-left.ensures _ _
    c.leave.ensures.ended c.in-Some.is in
    let pools = c.take_back.ensures.after
    ∙ (ap (pools_after_return u.pools c.in-Some.pool) c.from.ensures
    ∙ ap (pools_after_end u.pools) (sym freed)) in
    let left = on_ok c.leave.result c.unwrap-left.result c.unwrap-left.ensures c.leave.ensures.ok in
    IsSoundUsage-held c.leave.new.self c.take_back.new.self i.limit i.call_limit
    (IsBacked-is (with_usage u _
    (pools_after_end u.pools (freed_by_leave u.calls c.args.key.now c.args.endpoint.now)))
    c.leave.new.self.calls (c.take_back.new.self) c.leave.new.self.most
    (IsBacked-leave u c.self.invariant.backed c.args.key.now c.args.endpoint.now call.0 call.1)
    left.rows pools left.most)
    (left.sound) c.take_back.ensures.within

pub invariant_of-self-in_default : goal.invariant_of-self-in_default
invariant_of-self-in_default c =
    let i = c.self.inside in
    let u = usage_in i.calls i.pools i.limit i.call_limit in
    let call = call_left _ _ c.self.view_is c.args.key.now c.args.endpoint.now c.requires in
    let left = on_ok c.leave.result c.unwrap-left.result c.unwrap-left.ensures c.leave.ensures.ok in
    let freed = freed_as c.leave.result c.unwrap-left.result c.unwrap-left.ensures _ _
    c.leave.ensures.ended c.in_default.is in
    IsSoundUsage-held c.leave.new.self i.pools i.limit i.call_limit
    (IsBacked-is (with_usage u _
    (pools_after_end u.pools (freed_by_leave u.calls c.args.key.now c.args.endpoint.now)))
    c.leave.new.self.calls u.pools c.leave.new.self.most
    (IsBacked-leave u c.self.invariant.backed c.args.key.now c.args.endpoint.now call.0 call.1)
    left.rows (ap (pools_after_end u.pools) (sym freed)) left.most)
    (left.sound) (c.self.invariant.within)

pub returns-in-Some : goal.returns-in-Some
returns-in-Some c =
    let i = c.self.inside in
    let u = usage_in i.calls i.pools i.limit i.call_limit in
    let freed = freed_as c.leave.result c.unwrap-left.result c.unwrap-left.ensures _ _
    c.leave.ensures.ended c.in-Some.is in
    let pools = c.take_back.ensures.after
    ∙ (ap (pools_after_return u.pools c.in-Some.pool) c.from.ensures
    ∙ ap (pools_after_end u.pools) (sym freed)) in
    let left = on_ok c.leave.result c.unwrap-left.result c.unwrap-left.ensures c.leave.ensures.ok in
    subst (λ (l : Lending). usage_in c.leave.new.self c.take_back.new.self i.limit i.call_limit
    ≡ with_usage l.usage (after_leave l.usage.calls c.args.key.now c.args.endpoint.now)
    (pools_after_end l.usage.pools
    (freed_by_leave l.usage.calls c.args.key.now c.args.endpoint.now))) c.self.view_is
    (λ j. record {
      calls = left.rows j;
      pools = pools j;
      most = left.most j;
      limit = i.limit;
      call_limit = i.call_limit;
    })
