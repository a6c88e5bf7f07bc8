use Rattle.std.proofs.Common.{◌≡◌, sym, ◌∙◌, subst, None, ap, arith}
use Rattle.std.specs.Prelude.{slice_get}
use Rattle.keyed.proofs.Decide.{by_place, some_none, same_some}
use Rattle.registrations.specs.declared.registration.Registration.{Registration}
use Rattle.expiry.specs.inside.Searched.{item_of}
use Rattle.expiry.proofs.Endpoints.{none_due}
use Rattle.expiry.proofs.due_search.endpoint_due.Goals as goal
use Rattle.expiry.proofs.due_search.endpoint_due.Goals.{in-Some+in_default-item_of, in_default}

pub loop-i-preserved : goal.loop-i-preserved
loop-i-preserved c j r below there =
    let order = c.args.registrations.now.order in
    by_place j c.loop-i.i (item_of c.args.now c.args.times.now c.args.calls.now.calls r ≡ None)
    (λ e. elim c.match-nth.branch [
      | in-Some+in_default-item_of w ↦
          let is = same_some w.in-Some.registration.now r
          (w.in-Some.ensures.nth ∙ (ap (slice_get order) (sym e) ∙ there)) in
          subst (λ (x : Registration).
          item_of c.args.now c.args.times.now c.args.calls.now.calls x ≡ None) is
          (sym w.item_of.ensures ∙ w.in_default-item_of.is)
      | in_default w ↦
          some_none (sym (ap (slice_get order) (sym e) ∙ there) ∙ sym w.in_default.ensures.nth)
    ])
    (λ differ. c.loop-i.invariant j r (omega (arith, below, differ)) there)

pub returns : goal.returns
returns c =
    none_due c.args.now c.args.times.now c.args.calls.now.calls c.args.registrations.now c.loop-i.i
    c.len-i-end.ensures.numbered c.len-i-end.ensures.sound
    (omega (arith, c.loop-i-test.false, c.loop-i.auto.i-end, c.len-i-end.ensures.len))
    c.loop-i.invariant
