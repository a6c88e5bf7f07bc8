use Rattle.std.proofs.Common.{◌≡◌, ap, sym, ◌∙◌, length}
use Rattle.std.specs.FinMap as map
use Rattle.std.specs.HashMap as hash
use Rattle.ras_module.specs.CallKeys.{same_call_key}
use Rattle.admission.specs.Calls.{with_leg, legs_in}
use Rattle.admission.specs.Legs.{leg_of}
use Rattle.admission.proofs.CountedCalls.{AreCounted-join}
use Rattle.admission.proofs.LegLemmas.{one_leg}
use Rattle.admission.proofs.StoredCalls.{get_call, stored_call, Becomes-update}
use Rattle.admission.proofs.table.Calls.join.Goals as goal

legs_are : (c : goal.After-key-2-1)
    → legs_in (hash.get same_call_key c.self.inside.calls c.args.key) ≡ c.in-Some.call.now.legs
legs_are c = ap legs_in (get_call c.self.inside.calls c.args.key
    ∙ (ap (λ t. map.get t.calls c.args.key) c.self.view_is ∙ sym c.in-Some.ensures.found))

pub write_leg-requires-clause-one : goal.write_leg-requires-clause-one
write_leg-requires-clause-one c = ap length (legs_are c) ∙ one_leg c.in-Some.call.now.legs
    c.are_two.result c.are_two.ensures.legs c.are_two.ensures.two c.if-are_two.false

pub write_leg-requires-clause-new : goal.write_leg-requires-clause-new
write_leg-requires-clause-new c =
    ap (λ legs. leg_of legs c.args.leg.endpoint) (ap legs_in (get_call c.self.inside.calls
    c.args.key ∙ ap (λ t. map.get t.calls c.args.key) c.self.view_is)) ∙ c.requires

pub invariant_of-self : goal.invariant_of-self
invariant_of-self c =
    let old = c.self.inside.calls in
    let new = c.write_leg.new.calls in
    let call = c.in-Some.call.now in
    let there = stored_call old new c.args.key c.self.inside.most c.args.self.now c.self.view_is
    call c.in-Some.ensures.found in
    AreCounted-join old new c.self.inside.most c.self.inside.in_use
    c.self.invariant c.args.key call there c.args.leg
    (one_leg call.legs c.are_two.result c.are_two.ensures.legs c.are_two.ensures.two
    c.if-are_two.false)
    (ap (λ w. leg_of (legs_in w) c.args.leg.endpoint) c.in-Some.ensures.found ∙ c.requires)
    c.write_leg.ensures

pub returns-clause-ok : goal.returns-clause-ok
returns-clause-ok c = Becomes-update c.self.inside.calls c.write_leg.new.calls c.args.key
    c.self.inside.most c.args.self.now c.self.view_is (invariant_of-self c).stored
    (with_leg c.args.leg) c.write_leg.ensures c.in-Some.call.now c.in-Some.ensures.found
