-- What was chosen for an event is what its outcome shows.
use Rattle.std.proofs.Common.{◌∙◌, ◌≡◌, ◌+◌, ℕ, Bool, true, false, List, refl, sym, ap, subst}
use Rattle.std.proofs.Common.{Some, None, arith}
use Rattle.std.specs.Prelude.{Option, IfSome, MatchOption, ◌==◌, is_some, if◌then◌else◌}
use Rattle.std.proofs.lemmas.Bool.Decides.{nat_tests}
use Rattle.std.specs.FinMap as fin
use Rattle.keyed.proofs.Decide.{same_some}
use Rattle.ras_module.specs.declared.request.Request.{Request}
use Rattle.kept_replies.specs.declared.entry.KeptEntry.{KeptEntry}
use Rattle.kept_replies.specs.declared.entry.KeptState.{KeptState}
use Rattle.kept_replies.specs.declared.entry.KeptState.TheVariants.{Done, Pending}
use Rattle.kept_replies.specs.declared.key.KeptKey.{KeptKey}
use Rattle.kept_replies.specs.Kept.{NonePasses, Passes, births, is_over, reply_in}
use Rattle.zone_events.specs.declared.due_item.DueItem.{DueItem}
use Rattle.zone_events.specs.declared.due_item.DueItem.TheVariants.{RegistrationOver, Interrogate}
use Rattle.zone_events.specs.declared.due_item.DueItem.TheVariants.{Silent, Retry}
use Rattle.zone_events.specs.declared.due_item.DueItem.TheVariants.{KeptOver, PoolTurn}
use Rattle.zone_events.specs.declared.event.Event.{Event}
use Rattle.zone_events.specs.declared.event.Event.TheVariants as event
use Rattle.zone_events.specs.declared.outcome.Datagram.{Datagram}
use Rattle.zone_events.specs.declared.outcome.IgnoredCause.TheVariants.{Busy, UnknownEndpoint}
use Rattle.zone_events.specs.declared.outcome.Note.{Note}
use Rattle.zone_events.specs.declared.outcome.Note.TheVariants as note
use Rattle.zone_events.specs.declared.outcome.Outcome.{Outcome}
use Rattle.ras_requests.specs.Plans.{Plan}
use Rattle.ras_requests.specs.Requests.{endpoint_of, plan_of}
use Rattle.ras_machine.specs.declared.prepared.Message.{Message}
use Rattle.ras_machine.specs.declared.prepared.Message.TheVariants as message
use Rattle.ras_machine.specs.Prepared.{message_in}
use Rattle.ras_machine.specs.declared.course.Course as code
use Rattle.ras_machine.specs.State.{State}
use Rattle.ras_machine.specs.declared.job.Occasion.TheVariants.{First}
use Rattle.ras_machine.specs.Keeping.{Task, is_repeat, plan_at}
use Rattle.ras_machine.specs.Turns.{IsDueIn, IsNothingDueIn}
use Rattle.ras_machine.specs.Machine.{Course, Ending, Hearing, Ignoring}
use Rattle.ras_machine.specs.Machine.{Place, Answered, Free, Full, Own}
use Rattle.ras_machine.specs.Machine.{again, again_course, at_moment}
use Rattle.ras_machine.specs.Machine.{course_at, course_ending, first}
use Rattle.ras_machine.specs.Machine.{message_course, noted, place_by, place_of, request_case}
use Rattle.ras_machine.specs.Machine.{response_course, retry_course, retry_in_course, turn_course}
use Rattle.ras_machine.specs.Steps.{choices_of, item_of}
use Rattle.ras_machine.specs.Courses.{IsChosen, IsReady, Performs, chosen, course_of}
use Rattle.ras_machine.proofs.Retrying.{shown_by}

-- the note that was made
note_is : (what : Note) (output : Option Datagram) (s after : State) (outcome : Outcome)
    → noted what output s ≡ Some (outcome, after) → outcome.note ≡ what
note_is what output s after outcome is =
    ap (λ (a : Outcome × State). a.0.note) (sym (same_some _ (outcome, after) is))

dropped_is : (what : Note) (output : Option Datagram) (s after : State) (outcome : Outcome)
    → noted what output s ≡ Some (outcome, after) → outcome.dropped ≡ None
dropped_is what output s after outcome is =
    ap (λ (a : Outcome × State). a.0.dropped) (sym (same_some _ (outcome, after) is))

module _ (s : State) (now : ℕ) (outcome : Outcome) (after : State) where
  -- what a course comes to by what the outcome shows
  abbrev Makes : Course → Type 0
  Makes c = course_ending s now c (choices_of outcome) ≡ Some (outcome, after)

  again_shown : (key : KeptKey) (born : ℕ) (request : Request) (left : ℕ) (plan : Option Plan)
      → Makes (again_course now key born request left plan)
      → outcome.note ≡ note.Done (Retry born)
  again_shown key born request left None is =
      note_is (note.Done (Retry born)) None s after outcome is
  again_shown key born request left (Some plan) is =
      (shown_by s now (record {
        job = again key born left;
        request = request;
        plan = plan;
      }) plan (choices_of outcome) outcome after is).0

  retry_shown_in : (key : KeptKey) (born : ℕ) (state : KeptState)
      → Makes (retry_in_course s now key born state) → outcome.note ≡ note.Done (Retry born)
  retry_shown_in key born (Done reply until) is =
      note_is (note.Done (Retry born)) None s after outcome is
  retry_shown_in key born (Pending request reply retry left) is =
      again_shown key born request left (plan_of s.tables now request) is

  retry_shown : (born : ℕ) (row : Option (KeptKey × KeptEntry))
      → Makes (retry_course s now born row) → outcome.note ≡ note.Done (Retry born)
  retry_shown born None is = note_is (note.Done (Retry born)) None s after outcome is
  retry_shown born (Some row) is = retry_shown_in row.0 born row.1.state is

  item_shown : (item : Option DueItem) → Makes (turn_course s now item)
      → item_of outcome.note ≡ item
  item_shown None is = ap item_of (note_is note.Idle _ _ after outcome is)
  item_shown (Some (Retry born)) is =
      ap item_of (retry_shown born (fin.get (births s.kept) born) is)
  item_shown (Some (RegistrationOver id)) is =
      ap item_of (note_is (note.Done (RegistrationOver id)) _ _ after outcome is)
  item_shown (Some (Interrogate id)) is =
      ap item_of (note_is (note.Done (Interrogate id)) _ _ after outcome is)
  item_shown (Some (Silent id)) is =
      ap item_of (note_is (note.Done (Silent id)) _ _ after outcome is)
  item_shown (Some (KeptOver born)) is =
      ap item_of (note_is (note.Done (KeptOver born)) _ _ after outcome is)
  item_shown (Some PoolTurn) is = ap item_of (note_is (note.Done PoolTurn) _ _ after outcome is)

  module _ (key : KeptKey) (request : Request) where
    full_shown : (plan : Plan) (dropped : Option ℕ)
        → Makes (request_case s now key request (Some plan) Full dropped)
        → outcome.dropped ≡ dropped
    full_shown plan None is = dropped_is (note.Ignored Busy) None s after outcome is
    full_shown plan (Some born) is =
        let task : Task = record {
          job = first key (Some born);
          request = request;
          plan = plan_at (First (Some born)) now (endpoint_of request) plan;
        } in
        (shown_by s now task task.plan (choices_of outcome) outcome after is).1

    same_request : (plan : Option Plan) (place : Place) (dropped : Option ℕ)
        → Makes (request_case s now key request plan place dropped)
        → request_case s now key request plan place outcome.dropped
        ≡ request_case s now key request plan place dropped
    same_request None place dropped is = refl
    same_request (Some plan) (Answered reply) dropped is = refl
    same_request (Some plan) Own dropped is = refl
    same_request (Some plan) Free dropped is = refl
    same_request (Some plan) Full dropped is =
        ap (request_case s now key request (Some plan) Full) (full_shown plan dropped is)

  same_message : (key : KeptKey) (m : Option Message) (dropped : Option ℕ)
      → Makes (message_course s now key dropped m)
      → message_course s now key outcome.dropped m ≡ message_course s now key dropped m
  same_message key None dropped is = refl
  same_message key (Some message.Unreadable) dropped is = refl
  same_message key (Some message.NotServed) dropped is = refl
  same_message key (Some (message.Request request)) dropped is =
      same_request key request (plan_of s.tables now request) (place_of s now key) dropped is

  -- the course that was chosen is that of what the outcome shows
  pub same_course : (what : Event) (dropped : Option ℕ) (item : Option DueItem)
      → Makes (course_at s now what (chosen dropped item))
      → course_at s now what (choices_of outcome) ≡ course_at s now what (chosen dropped item)
  same_course (event.Datagram source bytes moment) dropped item is =
      same_message (record { source = source; bytes = bytes }) (message_in bytes) dropped is
  same_course (event.Turn moment) dropped item is = ap (turn_course s now) (item_shown item is)

module _ (s : State) (now : ℕ) where
  again_ready : (key : KeptKey) (born : ℕ) (request : Request) (left : ℕ) (plan : Option Plan)
      → IsDueIn s now (Retry born) → IsReady s now (again_course now key born request left plan)
  again_ready key born request left None due = due
  again_ready key born request left (Some plan) due = due

  retry_ready_in : (key : KeptKey) (born : ℕ) (state : KeptState)
      → IsDueIn s now (Retry born) → IsReady s now (retry_in_course s now key born state)
  retry_ready_in key born (Done reply until) due = due
  retry_ready_in key born (Pending request reply retry left) due =
      again_ready key born request left (plan_of s.tables now request) due

  retry_ready : (born : ℕ) (row : Option (KeptKey × KeptEntry))
      → IsDueIn s now (Retry born) → IsReady s now (retry_course s now born row)
  retry_ready born None due = due
  retry_ready born (Some row) due = retry_ready_in row.0 born row.1.state due

  -- what is chosen in a turn may be done
  pub turn_ready : (item : Option DueItem) → MatchOption item (IsNothingDueIn s now) (IsDueIn s now)
      → IsReady s now (turn_course s now item)
  turn_ready None due = due
  turn_ready (Some (Retry born)) due = retry_ready born (fin.get (births s.kept) born) due
  turn_ready (Some (RegistrationOver id)) due = due
  turn_ready (Some (Interrogate id)) due = due
  turn_ready (Some (Silent id)) due = due
  turn_ready (Some (KeptOver born)) due = due
  turn_ready (Some PoolTurn) due = due

  module _ (key : KeptKey) (dropped : Option ℕ)
      (over : IfSome dropped (Passes (is_over now) s.kept))
      (none : dropped ≡ None → fin.get s.kept key ≡ None
      → fin.len s.kept ≡ s.tables.config.kept → NonePasses (is_over now) s.kept) where
    -- if all places are taken, the key has no entry, and as many entries are kept as may be
    taken : (w : Option KeptEntry) → place_by s now w ≡ Full
        → (w ≡ None) × (fin.len s.kept ≡ s.tables.config.kept)
    taken (Some entry) is = absurd (cases (is_repeat s now entry) is) where
      cases : (b : Bool) → (if b then Answered (reply_in entry.state) else Own) ≡ Full → ⊥
      cases true is = cc is
      cases false is = cc is
    taken None is = (refl, cases (fin.len s.kept == s.tables.config.kept) refl is) where
      cases : (b : Bool) → (fin.len s.kept == s.tables.config.kept) ≡ b
          → (if b then Full else Free) ≡ Full → fin.len s.kept ≡ s.tables.config.kept
      cases true full is = grind (arith, nat_tests)
      cases false full is = absurd (cc is)

    full_ready : (request : Request) (plan : Plan) (w : Option ℕ) → dropped ≡ w
        → fin.get s.kept key ≡ None → fin.len s.kept ≡ s.tables.config.kept
        → IsReady s now (request_case s now key request (Some plan) Full w)
    full_ready request plan None is absent full = none is absent full
    full_ready request plan (Some born) is absent full =
        subst (λ w. IfSome w (Passes (is_over now) s.kept)) is over

    placed_ready : (request : Request) (plan : Plan) (place : Place) → place_of s now key ≡ place
        → IsReady s now (request_case s now key request (Some plan) place dropped)
    placed_ready request plan (Answered reply) is = tt
    placed_ready request plan Own is = tt
    placed_ready request plan Free is = tt
    placed_ready request plan Full is =
        let all = taken (fin.get s.kept key) is in
        full_ready request plan dropped refl all.0 all.1

    response_ready : (w : Option (List ℕ)) → IsReady s now (response_course s w)
    response_ready None = tt
    response_ready (Some endpoint) = cases (is_some (fin.get s.tables.live endpoint)) where
      cases : (b : Bool) → IsReady s now (if b then Hearing endpoint else Ignoring UnknownEndpoint)
      cases true = tt
      cases false = tt

    request_ready : (request : Request) (w : Option Plan)
        → IsReady s now (request_case s now key request w (place_of s now key) dropped)
    request_ready request None = response_ready (endpoint_of request)
    request_ready request (Some plan) = placed_ready request plan (place_of s now key) refl

    -- what is chosen for a datagram may be done
    pub message_ready : (m : Option Message) → IsReady s now (message_course s now key dropped m)
    message_ready None = tt
    message_ready (Some message.Unreadable) = tt
    message_ready (Some message.NotServed) = tt
    message_ready (Some (message.Request request)) =
        request_ready request (plan_of s.tables now request)

-- what was chosen for an event may be done
pub ready_of : (s : State) (now : ℕ) (what : Event) (called : code.Course)
    → IsChosen s now what called → IsReady s now (course_of s now called)
ready_of s now what called is = subst (IsReady s now) (sym is.calls.is) is.ready

-- what a course comes to, before the clock and the number of steps are set
ending_of : (now steps : ℕ) (ending : Ending) (outcome : Outcome) (after : State)
    → at_moment now steps ending ≡ Some (outcome, after)
    → (mid : State) × (ending ≡ Some (outcome, mid))
ending_of now steps None outcome after is = absurd (cc is)
ending_of now steps (Some answer) outcome after is = (
  answer.1,
  ap (λ o. Some (o, answer.1))
      (ap (λ (a : Outcome × State). a.0) (same_some _ (outcome, after) is)),
)

-- once it is done, the outcome shows what it was
pub course_shown : (old : State) (now : ℕ) (what : Event) (called : code.Course)
    → IsChosen old now what called → (outcome : Outcome) (new : State)
    → Performs old now (course_of old now called) outcome new
    → course_of old now called ≡ course_at old now what (choices_of outcome)
course_shown old now what called is outcome new performs =
    let done = subst (λ c. Performs old now c outcome new) is.calls.is performs in
    let ending = ending_of now (old.steps + 1) (course_ending old now
    (course_at old now what (chosen is.dropped is.item)) (choices_of outcome)) outcome new
    done.makes in
    is.calls.is ∙ sym (same_course old now outcome ending.0 what is.dropped is.item ending.1)

pub responds : (old : State) (now : ℕ) (what : Event) (called : code.Course)
    → IsChosen old now what called → (outcome : Outcome) (new : State)
    → Performs old now (course_of old now called) outcome new
    → Performs old now (course_at old now what (choices_of outcome)) outcome new
responds old now what called is outcome new performs =
    subst (λ c. Performs old now c outcome new)
    (course_shown old now what called is outcome new performs) performs
