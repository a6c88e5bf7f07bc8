use Rattle.std.proofs.Common.{refl, sym, ap, ◌∙◌, subst}
use Rattle.std.specs.FinMap as fin
use Rattle.admission.specs.Calls.{new_call}
use Rattle.zone_tables.specs.Changes.{IsOpenable}
use Rattle.zone_tables.specs.Parts.{Lending, with_usage}
use Rattle.zone_tables.proofs.Answered.{on_ok}
use Rattle.zone_tables.proofs.Backing.{IsSoundUsage-held, IsBacked-is, IsBacked-open, usage_in}
use Rattle.zone_tables.proofs.bandwidth.Bandwidth.open.Goals as goal

pub invariant_of-self-2 : goal.invariant_of-self-2
invariant_of-self-2 c =
    let i = c.self.inside in
    let u = usage_in i.calls i.pools i.limit i.call_limit in
    let can = subst (λ (l : Lending). IsOpenable l.usage c.args.key c.args.pool)
    (sym c.self.view_is) c.requires in
    let opened = on_ok c.open.result c.unwrap.result c.unwrap.ensures c.open.ensures.ok in
    IsSoundUsage-held c.open.new.self i.pools i.limit i.call_limit
    (IsBacked-is (with_usage u _ u.pools) c.open.new.self.calls u.pools c.open.new.self.most
    (IsBacked-open u c.self.invariant.backed c.args.key c.args.pool c.args.leg can)
    (opened.rows ∙ ap (λ cs. fin.insert cs c.args.key (new_call c.args.pool 0 c.args.leg))
    c.reserve.ensures.calls)
    refl (opened.most ∙ c.reserve.ensures.most))
    (opened.sound) (c.self.invariant.within)
