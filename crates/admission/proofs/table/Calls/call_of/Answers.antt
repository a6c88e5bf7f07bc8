use Rattle.std.proofs.Common.{sym, ◌∙◌, ap, subst}
use Rattle.std.specs.Prelude.{Option, MatchOption, IsSome}
use Rattle.ras_module.specs.declared.call_key.CallKey.{CallKey}
use Rattle.std.specs.FinMap as map
use Rattle.admission.specs.Calls.{CallTable, IsInNoCall, leg_at, legs_in}
use Rattle.admission.specs.Legs.{leg_of}
use Rattle.admission.proofs.StoredCalls.{call_found, get_call}
use Rattle.admission.proofs.table.Calls.call_of.Goals as goal

pub returns-in-Some : goal.returns-in-Some
returns-in-Some c =
    subst (λ w. IsSome (leg_of (legs_in w) c.args.endpoint.now))
    (get_call c.self.inside.calls c.in-Some.key
    ∙ ap (λ (t : CallTable). map.get t.calls c.in-Some.key) c.self.view_is) c.in-Some.ensures

pub returns-in-None : goal.returns-in-None
returns-in-None c =
    subst (λ (w : Option CallKey). MatchOption w (IsInNoCall c.args.self.now.calls
    c.args.endpoint.now) (λ key. IsSome (leg_at c.args.self.now.calls key c.args.endpoint.now)))
    (sym c.call_in.ensures) (call_found c.self.inside.calls c.self.inside.most c.args.self.now
    c.self.invariant.stored c.self.view_is c.args.endpoint.now)
