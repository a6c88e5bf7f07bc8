use Rattle.std.proofs.Common.{◌∙◌, subst, sym}
use Rattle.ras_machine.specs.Machine.{course_at}
use Rattle.ras_machine.specs.Courses.{IsReady}
use Rattle.ras_machine.specs.Prepared.{event_at}
use Rattle.ras_machine.specs.Steps.{choices_of}
use Rattle.step_check.proofs.Redoing.{allowed_ready, dropped_over}
use Rattle.step_check.proofs.course.shown_course.Goals as goal

pub returns-then-not-may_be_dropped : goal.returns-then-not-may_be_dropped
returns-then-not-may_be_dropped c = λ moment after allowed ends.
    (let s = c.args.machine.now in
    let now = c.args.now in
    let outcome = c.args.outcome.now in
    absurd (cc (sym (c.may_be_dropped.ensures.1 (dropped_over s now outcome after
    (course_at s now (event_at moment c.args.arrival) (choices_of outcome)) allowed ends))
    ∙ c.if-not-may_be_dropped.true)))

pub is_ready-requires : goal.is_ready-requires
is_ready-requires c = (c.in_ok-course.ensures 0).stands

pub returns-then-is_ready : goal.returns-then-is_ready
returns-then-is_ready c = λ moment. record {
  calls = c.in_ok-course.ensures moment;
  ready = subst (IsReady c.args.machine.now c.args.now) (c.in_ok-course.ensures moment).is
      (c.is_ready.ensures.0 c.if-is_ready.true);
}

pub returns-else-is_ready : goal.returns-else-is_ready
returns-else-is_ready c = λ moment after allowed ends.
    (let s = c.args.machine.now in
    let now = c.args.now in
    let outcome = c.args.outcome.now in
    absurd (cc (sym (c.is_ready.ensures.1
    (subst (IsReady s now) (sym (c.in_ok-course.ensures moment).is)
    (allowed_ready s now (course_at s now (event_at moment c.args.arrival) (choices_of outcome))
    (choices_of outcome) allowed)))
    ∙ c.if-is_ready.false)))
