use Rattle.std.proofs.Common.{Option, subst, sym, ap}
use Rattle.zone_tables.proofs.Answered.{if_ok_with}
use Rattle.zone_events.specs.declared.outcome.IgnoredCause.TheVariants.{TooLong}
use Rattle.ras_machine.specs.declared.course.Course.TheVariants.{Ignoring}
use Rattle.ras_machine.specs.declared.prepared.Message.{Message}
use Rattle.ras_machine.specs.Prepared.{IsRead, event_at}
use Rattle.ras_machine.specs.Machine.{course_at, message_course}
use Rattle.ras_machine.specs.Courses.{CallsFor}
use Rattle.ras_machine.specs.Steps.{choices_of}
use Rattle.step_check.proofs.course.called_for.Goals as goal

pub returns-in-Datagram : goal.returns-in-Datagram
returns-in-Datagram c =
    let s = c.args.machine.now in
    let now = c.args.now in
    let outcome = c.args.outcome.now in
    let key = c.in-Datagram.key in
    let read = subst IsRead c.in-Datagram.is c.requires.read in
    if_ok_with _ _ c.datagram_course.result c.datagram_course.ensures (λ called calls moment.
    subst (λ a. CallsFor s now (course_at s now (event_at moment a) (choices_of outcome)) called)
    (sym c.in-Datagram.is)
    (subst (λ m. CallsFor s now (message_course s now key outcome.dropped m) called)
    (sym read) calls))

pub returns-in-TooLong : goal.returns-in-TooLong
returns-in-TooLong c = λ moment.
    (let s = c.args.machine.now in
    let now = c.args.now in
    let outcome = c.args.outcome.now in
    let read = subst IsRead c.in-TooLong.is c.requires.read in
    let course_by = λ (m : Option Message).
    message_course s now (record { source = c.in-TooLong.field-0; bytes = c.in-TooLong.field-1 })
    outcome.dropped m in
    subst (λ a. CallsFor s now (course_at s now (event_at moment a) (choices_of outcome))
    (Ignoring TooLong)) (sym c.in-TooLong.is) (record {
      is = sym (ap course_by read);
      stands = tt;
    }))
