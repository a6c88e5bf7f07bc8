use Rattle.std.proofs.Common.{ap, sym, ◌∙◌, refl, arith}
use Rattle.std.specs.Prelude.{slice_get}
use Rattle.std.specs.Option.{option_copied, option_map}
use Rattle.std.specs.Ordering.{nat_cmp}
use Rattle.std.specs.FinMap as map
use Rattle.keyed.proofs.Decide.{some_none}
use Rattle.registrations.specs.inside.Stored.{deadline_of}
use Rattle.registrations.proofs.Stored.{copied_due, due_of}
use Rattle.registrations.proofs.table.Registrations.over.Goals as goal

pub returns-in_err-deadline-clause-none : goal.returns-in_err-deadline-clause-none
returns-in_err-deadline-clause-none c none id r there =
    let i = c.self.inside in
    let due = due_of i.rows i.by_identifier i.by_address i.deadlines i.legs i.ends i.times i.most
    c.self.invariant.stored _ c.self.view_is c.self.invariant.due id r there in
    some_none (sym due.1 ∙ (ap (λ m. map.get m due.0) (c.in_err-deadline.ensures.none.0 refl)
    ∙ map.get-empty nat_cmp due.0))

pub returns-then-deadline-now-clause-none : goal.returns-then-deadline-now-clause-none
returns-then-deadline-now-clause-none c none id r there =
    let i = c.self.inside in
    let due = due_of i.rows i.by_identifier i.by_address i.deadlines i.legs i.ends i.times i.most
    c.self.invariant.stored _ c.self.view_is c.self.invariant.due id r there in
    omega (
      arith,
      c.if-deadline-now.true,
      c.in_ok-deadline.ensures.least due.0 r.deadline due.1,
    )

pub returns-clause-over : goal.returns-clause-over
returns-clause-over c =
    let at = ap (λ t. option_map deadline_of (slice_get t.order c.in_ok-deadline.i))
    (sym c.self.view_is)
    ∙ (sym (c.self.invariant.due c.in_ok-deadline.i) ∙ c.in_ok-deadline.ensures.there) in
    copied_due c.nth.result c.in_ok-deadline.deadline c.args.now
    (ap (option_map deadline_of) c.nth.ensures.nth ∙ at) c.if-deadline-now.false

pub returns-clause-none : goal.returns-clause-none
returns-clause-none c none id r there =
    let at = ap (λ t. option_map deadline_of (slice_get t.order c.in_ok-deadline.i))
    (sym c.self.view_is)
    ∙ (sym (c.self.invariant.due c.in_ok-deadline.i) ∙ c.in_ok-deadline.ensures.there) in
    some_none (sym (ap (option_map deadline_of) c.nth.ensures.nth ∙ at)
    ∙ ap (λ w. option_map deadline_of (option_copied w)) none)
