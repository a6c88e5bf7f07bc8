use Rattle.std.proofs.Common.{◌≡◌, Some, ap, sym, ◌∙◌, subst}
use Rattle.std.specs.FinMap as map
use Rattle.admission.specs.Calls.{Becomes, legs_in}
use Rattle.admission.specs.Legs.{has_other}
use Rattle.admission.specs.inside.Stored.{with_legs_but}
use Rattle.admission.proofs.CountedCalls.{AreCounted-left, AreCounted-ended}
use Rattle.admission.proofs.KeptSums.{part_of_total, part_of_sum}
use Rattle.admission.proofs.Leaving.{after_leave-other, after_leave-last, freed-other, freed-last}
use Rattle.admission.proofs.StoredCalls.{open_of, get_call, stored_call}
use Rattle.admission.proofs.StoredCalls.{Becomes-rewrite, Becomes-end}
use Rattle.admission.proofs.table.Calls.leave.Goals as goal

pub write_without-requires : goal.write_without-requires
write_without-requires c =
    let call_is = get_call c.self.inside.calls c.args.key.now
    ∙ (ap (λ t. map.get t.calls c.args.key.now) c.self.view_is ∙ sym c.in-Some.ensures.found) in
    ap (λ w. has_other (legs_in w) c.args.endpoint.now) call_is
    ∙ (sym c.has_other.ensures ∙ c.if-has_other.true)

pub invariant_of-self : goal.invariant_of-self
invariant_of-self c =
    let old = c.self.inside.calls in
    let call = c.in-Some.call.now in
    AreCounted-left old c.write_without.new.calls c.self.inside.most c.self.inside.in_use
    c.self.invariant c.args.key.now call
    (stored_call old old c.args.key.now c.self.inside.most c.args.self.now c.self.view_is call
    c.in-Some.ensures.found)
    c.args.endpoint.now (sym c.has_other.ensures ∙ c.if-has_other.true) c.write_without.ensures

pub returns-then-has_other-clause-ok : goal.returns-then-has_other-clause-ok
returns-then-has_other-clause-ok c =
    subst (Becomes c.args.self.now _)
    (sym (after_leave-other c.args.self.now.calls c.args.key.now c.args.endpoint.now
    c.in-Some.call.now (sym c.in-Some.ensures.found)
    (sym c.has_other.ensures ∙ c.if-has_other.true)))
    (Becomes-rewrite c.self.inside.calls c.write_without.new.calls c.args.key.now c.self.inside.most
    c.args.self.now c.self.view_is (invariant_of-self c).stored
    (with_legs_but c.args.endpoint.now) c.write_without.ensures
    c.in-Some.call.now c.in-Some.ensures.found)

pub returns-then-has_other-clause-ended : goal.returns-then-has_other-clause-ended
returns-then-has_other-clause-ended c =
    sym (freed-other c.args.self.now.calls c.args.key.now c.args.endpoint.now c.in-Some.call.now
    (sym c.in-Some.ensures.found) (sym c.has_other.ensures ∙ c.if-has_other.true))

last_call : (c : goal.After-take-arg-1)
    → map.get (open_of c.self.inside.calls) c.args.key.now ≡ Some c.in-Some.call.now
last_call c = stored_call c.self.inside.calls c.self.inside.calls c.args.key.now
    c.self.inside.most c.args.self.now c.self.view_is c.in-Some.call.now c.in-Some.ensures.found

pub take-requires-clause-total : goal.take-requires-clause-total
take-requires-clause-total c = part_of_total (open_of c.self.inside.calls) c.args.key.now
    c.self.inside.in_use c.self.invariant.sums c.in-Some.call.now (last_call c)

pub take-requires-clause-pool : goal.take-requires-clause-pool
take-requires-clause-pool c = part_of_sum (open_of c.self.inside.calls) c.args.key.now
    c.self.inside.in_use c.self.invariant.sums c.in-Some.call.now (last_call c)

pub invariant_of-self-2 : goal.invariant_of-self-2
invariant_of-self-2 c =
    AreCounted-ended c.self.inside.calls c.swap_remove.new.self c.self.inside.most
    c.self.inside.in_use c.self.invariant c.args.key.now c.in-Some.call.now
    (stored_call c.self.inside.calls c.self.inside.calls c.args.key.now c.self.inside.most
    c.args.self.now c.self.view_is c.in-Some.call.now c.in-Some.ensures.found)
    c.args.endpoint.now c.take.new.self (sym c.has_other.ensures ∙ c.if-has_other.false)
    c.swap_remove.result c.swap_remove.ensures.value c.swap_remove.ensures.unique
    c.swap_remove.ensures.updates c.swap_remove.ensures.len c.take.ensures

pub returns-clause-ok : goal.returns-clause-ok
returns-clause-ok c =
    subst (Becomes c.args.self.now _)
    (sym (after_leave-last c.args.self.now.calls c.args.key.now c.args.endpoint.now
    c.in-Some.call.now (sym c.in-Some.ensures.found)
    (sym c.has_other.ensures ∙ c.if-has_other.false)))
    (Becomes-end c.self.inside.calls c.swap_remove.new.self c.args.key.now c.self.inside.most
    c.args.self.now c.self.view_is (invariant_of-self-2 c).stored c.swap_remove.ensures.updates
    c.swap_remove.ensures.room.0)

pub returns-clause-ended : goal.returns-clause-ended
returns-clause-ended c =
    sym (freed-last c.args.self.now.calls c.args.key.now c.args.endpoint.now c.in-Some.call.now
    (sym c.in-Some.ensures.found) (sym c.has_other.ensures ∙ c.if-has_other.false))
