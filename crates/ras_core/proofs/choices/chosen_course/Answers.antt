use Rattle.std.proofs.Common.{Option, subst, sym, ap, None}
use Rattle.zone_tables.proofs.Answered.{if_ok_with}
use Rattle.zone_events.specs.declared.outcome.IgnoredCause.TheVariants.{TooLong}
use Rattle.ras_machine.specs.declared.course.Course.TheVariants.{Ignoring}
use Rattle.ras_machine.specs.declared.prepared.Message.{Message}
use Rattle.ras_machine.specs.Prepared.{IsRead, event_at, message_in}
use Rattle.ras_machine.specs.Machine.{message_course}
use Rattle.ras_machine.specs.Courses.{CallsFor, IsChosen, IsReady}
use Rattle.ras_machine.proofs.Choosing.{message_ready, turn_ready}
use Rattle.ras_core.proofs.choices.chosen_course.Goals as goal

pub returns-in-Datagram : goal.returns-in-Datagram
returns-in-Datagram c =
    let s = c.args.machine.now in
    let now = c.args.now in
    let key = c.in-Datagram.key in
    let dropped = c.entry_to_drop-dropped.result in
    let read = subst IsRead c.in-Datagram.is c.requires in
    if_ok_with _ _ c.datagram_course.result c.datagram_course.ensures (λ called calls moment.
    subst (λ a. IsChosen s now (event_at moment a) called) (sym c.in-Datagram.is) (record {
      dropped = dropped;
      item = None;
      calls = subst (λ m. CallsFor s now (message_course s now key dropped m) called) (sym read)
          calls;
      ready = message_ready s now key dropped c.entry_to_drop-dropped.ensures.over
          c.entry_to_drop-dropped.ensures.none (message_in key.bytes);
    }))

pub returns-in-TooLong : goal.returns-in-TooLong
returns-in-TooLong c = λ moment.
    (let s = c.args.machine.now in
    let now = c.args.now in
    let read = subst IsRead c.in-TooLong.is c.requires in
    let course_by = λ (m : Option Message).
    message_course s now (record { source = c.in-TooLong.field-0; bytes = c.in-TooLong.field-1 })
    None m in
    subst (λ a. IsChosen s now (event_at moment a) (Ignoring TooLong)) (sym c.in-TooLong.is) (record {
      dropped = None;
      item = None;
      calls = record { is = sym (ap course_by read); stands = tt };
      ready = subst (λ m. IsReady s now (course_by m)) (sym read) tt;
    }))

pub returns : goal.returns
returns c =
    let s = c.args.machine.now in
    let now = c.args.now in
    if_ok_with _ _ c.turn_course.result c.turn_course.ensures (λ called calls moment.
    subst (λ a. IsChosen s now (event_at moment a) called) (sym c.in-Turn.is) (record {
      dropped = None;
      item = c.due.result;
      calls = calls;
      ready = turn_ready s now c.due.result c.due.ensures;
    }))
