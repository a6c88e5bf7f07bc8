use Rattle.std.proofs.Common.{refl, sym, subst}
use Rattle.zone_tables.specs.Changes.{IsJoinable}
use Rattle.zone_tables.specs.Parts.{Lending, with_usage}
use Rattle.zone_tables.proofs.Answered.{on_ok}
use Rattle.zone_tables.proofs.Backing.{IsSoundUsage-held, IsBacked-is, IsBacked-join, usage_in}
use Rattle.zone_tables.proofs.bandwidth.Bandwidth.join.Goals as goal

pub invariant_of-self : goal.invariant_of-self
invariant_of-self c =
    let i = c.self.inside in
    let u = usage_in i.calls i.pools i.limit i.call_limit in
    let can = subst (λ (l : Lending). IsJoinable l.usage.calls c.args.key c.args.leg)
    (sym c.self.view_is) c.requires in
    let joined = on_ok c.join.result c.unwrap.result c.unwrap.ensures c.join.ensures.ok in
    IsSoundUsage-held c.join.new.self i.pools i.limit i.call_limit
    (IsBacked-is (with_usage u _ u.pools) c.join.new.self.calls u.pools c.join.new.self.most
    (IsBacked-join u c.self.invariant.backed c.args.key c.args.leg can)
    joined.rows refl joined.most)
    (joined.sound) (c.self.invariant.within)
