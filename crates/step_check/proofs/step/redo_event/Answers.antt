use Rattle.std.proofs.Common.{◌∙◌, subst, sym}
use Rattle.zone_events.specs.Events.{moment_in}
use Rattle.ras_machine.specs.Machine.{most_steps}
use Rattle.ras_machine.specs.Courses.{IsReady}
use Rattle.zone_tables.proofs.Answered.{on_ok}
use Rattle.step_check.proofs.Redoing.{absent, at_its_moment, found_shown, none_found}
use Rattle.ras_core.proofs.Responding.{open_below}
use Rattle.step_check.proofs.Redoing.{redoes, unnamed}
use Rattle.step_check.proofs.step.redo_event.Goals as goal

pub returns-in_default-clause-redoes : goal.returns-in_default-clause-redoes
returns-in_default-clause-redoes c =
    let s = c.args.machine.now in
    let event = c.args.event.now in
    let outcome = c.args.outcome.now in
    let now = c.later-now.result in
    let prepared = c.in_ok-prepared.prepared in
    let is = c.in_ok-prepared.ensures ∙ c.in_ok-copy.ensures in
    let few = open_below s.steps most_steps c.is_closed.result c.is_closed.ensures
    c.if-is_closed.false c.requires.steps in
    absent s event outcome now few
    (at_its_moment s now c.clock.result c.moment.result prepared event is c.later-now.ensures.later
    c.clock.ensures c.moment.ensures)
    (none_found s now _ event (c.into_arrival.ensures.event ∙ is) outcome c.in_ok-course.field-0
    c.in_default.not-Some (c.in_ok-course.ensures (moment_in prepared)))

pub returns-then-not-may_be_named-clause-redoes : goal.returns-then-not-may_be_named-clause-redoes
returns-then-not-may_be_named-clause-redoes c =
    let s = c.args.machine.now in
    let event = c.args.event.now in
    let outcome = c.args.outcome.now in
    let now = c.later-now.result in
    let prepared = c.in_ok-prepared.prepared in
    let is = c.in_ok-prepared.ensures ∙ c.in_ok-copy.ensures in
    let few = open_below s.steps most_steps c.is_closed.result c.is_closed.ensures
    c.if-is_closed.false c.requires.steps in
    unnamed s event outcome now few
    (at_its_moment s now c.clock.result c.moment.result prepared event is c.later-now.ensures.later
    c.clock.ensures c.moment.ensures)
    c.in-Some.course
    (found_shown s now _ event (c.into_arrival.ensures.event ∙ is) outcome c.in_ok-course.field-0
    c.in-Some.course c.in-Some.is (c.in_ok-course.ensures (moment_in prepared)))
    (λ may. cc (sym (c.may_be_named.ensures.1 may) ∙ c.if-not-may_be_named.true))

pub perform-requires-clause-stands : goal.perform-requires-clause-stands
perform-requires-clause-stands c =
    let s = c.args.machine.now in
    let event = c.args.event.now in
    let is = c.in_ok-prepared.ensures ∙ c.in_ok-copy.ensures in
    (found_shown s c.later-now.result _ event (c.into_arrival.ensures.event ∙ is) c.args.outcome.now
    c.in_ok-course.field-0 c.in-Some.course c.in-Some.is
    (c.in_ok-course.ensures (moment_in c.in_ok-prepared.prepared))).calls.stands

pub perform-requires-clause-ready : goal.perform-requires-clause-ready
perform-requires-clause-ready c =
    let s = c.args.machine.now in
    let event = c.args.event.now in
    let now = c.later-now.result in
    let is = c.in_ok-prepared.ensures ∙ c.in_ok-copy.ensures in
    let shown = found_shown s now _ event (c.into_arrival.ensures.event ∙ is) c.args.outcome.now
    c.in_ok-course.field-0 c.in-Some.course c.in-Some.is
    (c.in_ok-course.ensures (moment_in c.in_ok-prepared.prepared)) in
    subst (IsReady s now) (sym shown.calls.is) shown.ready

pub returns-clause-redoes : goal.returns-clause-redoes
returns-clause-redoes c =
    let s = c.args.machine.now in
    let event = c.args.event.now in
    let outcome = c.args.outcome.now in
    let now = c.later-now.result in
    let prepared = c.in_ok-prepared.prepared in
    let is = c.in_ok-prepared.ensures ∙ c.in_ok-copy.ensures in
    let few = open_below s.steps most_steps c.is_closed.result c.is_closed.ensures
    c.if-is_closed.false c.requires.steps in
    redoes s event outcome now few
    (at_its_moment s now c.clock.result c.moment.result prepared event is c.later-now.ensures.later
    c.clock.ensures c.moment.ensures)
    c.in-Some.course
    (found_shown s now _ event (c.into_arrival.ensures.event ∙ is) outcome c.in_ok-course.field-0
    c.in-Some.course c.in-Some.is (c.in_ok-course.ensures (moment_in prepared)))
    c.perform.new.outcome c.perform.new.self c.perform.new.lender c.eq.result c.eq.ensures
    (on_ok c.perform.result c.in_ok-perform.field-0 c.in_ok-perform.was c.perform.ensures.performs)
    (on_ok c.perform.result c.in_ok-perform.field-0 c.in_ok-perform.was c.perform.ensures.named)
    (on_ok c.perform.result c.in_ok-perform.field-0 c.in_ok-perform.was c.perform.ensures.asks)
