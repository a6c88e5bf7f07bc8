-- What holds of every step.
use Rattle.std.proofs.Common.{◌≡◌, ◌≤◌, ◌+◌, ℕ, Bool, true, false, List, [], ◌∷◌, length, sym, ◌∙◌}
use Rattle.std.proofs.Common.{ap, subst, Some, None, arith}
use Rattle.std.specs.Prelude.{Option, Ok, IsTrue, nat_lt, max, if◌then◌else◌}
use Rattle.std.proofs.lemmas.Bool.Decides.{nat_tests}
use Rattle.std.specs.FinMap as fin
use Rattle.keyed.proofs.Decide.{same_some}
use Rattle.ras_module.specs.declared.address.Address.{Address}
use Rattle.ras_module.specs.declared.request.Request.{Request}
use Rattle.ras_module.specs.declared.request.TheConstants.Request as request_octets
use Rattle.ras_reading.specs.Messages.{message_reading}
use Rattle.ras_writing.specs.Replies.{encoding_of}
use Rattle.kept_replies.specs.declared.key.KeptKey.{KeptKey}
use Rattle.kept_replies.specs.declared.entry.KeptEntry.{KeptEntry}
use Rattle.kept_replies.specs.Kept.{reply_in}
use Rattle.zone_events.specs.declared.change.Change.{Change}
use Rattle.zone_events.specs.declared.event.Event.TheVariants as event
use Rattle.ras_machine.specs.Prepared.{message_by}
use Rattle.zone_events.specs.declared.outcome.Note.{Note}
use Rattle.zone_events.specs.declared.outcome.Note.TheVariants as note
use Rattle.zone_events.specs.declared.outcome.Outcome.{Outcome}
use Rattle.ras_machine.specs.State.{State}
use Rattle.ras_core.specs.Running.{Running}
use Rattle.ras_core.proofs.Changing.{sound_after}
use Rattle.ras_requests.specs.Requests.{HasReply}
use Rattle.ras_machine.specs.Keeping.{is_repeat}
use Rattle.ras_machine.specs.Turns.{IsNothingDueIn}
use Rattle.ras_machine.specs.Machine.{Ending, Course, Repeating, at_moment, course}
use Rattle.ras_machine.specs.Machine.{course_ending, datagram_course, message_course, most_steps}
use Rattle.ras_machine.specs.Machine.{turn_course}
use Rattle.ras_core.specs.Runs.{EachState, IsWithinLimit, RunningRun}
use Rattle.ras_machine.specs.Steps.{IsAllowed, Step, choices_of}
use Rattle.ras_machine.specs.Steps.{item_of}
use Rattle.ras_machine.proofs.Calling.{repeats}

not_above : (n most : ℕ) → n ≤ most → nat_lt most n ≡ false
not_above n most few = grind (arith, nat_tests)

-- what a machine returns comes of its course
answered : (steps : ℕ) (b : Bool) (now : ℕ) (answer : Ending) (outcome : Outcome) (after : State)
    → (if b then at_moment now (steps + 1) answer else None) ≡ Some (outcome, after)
    → at_moment now (steps + 1) answer ≡ Some (outcome, after)
answered steps true now answer outcome after is = is
answered steps false now answer outcome after is = absurd (cc is)

module _ (s : State) (source : Address) (bytes : List ℕ) (now : ℕ)
    (request : Request) (entry : KeptEntry)
    (few : length bytes ≤ request_octets.MOST) (read : message_reading bytes ≡ Ok (Some request))
    (served : HasReply request)
    (there : fin.get s.kept (record { source = source; bytes = bytes }) ≡ Some entry)
    (repeat : is_repeat s now entry ≡ true) (dropped : Option ℕ) where
  key : KeptKey
  key = record { source = source; bytes = bytes }

  course_is : datagram_course s now (record { source = source; bytes = bytes }) dropped
      ≡ Repeating (record { to = source; bytes = encoding_of (reply_in entry.state) })
  course_is =
      ap (message_course s now (record { source = source; bytes = bytes }) dropped)
      (ap (λ b. if b then None else Some (message_by (message_reading bytes)))
      (not_above (length bytes) request_octets.MOST few) ∙ ap (λ r. Some (message_by r)) read)
      ∙ repeats s now (record { source = source; bytes = bytes }) request dropped served entry there
      repeat

pub repeated : (s : State) (source : Address) (bytes : List ℕ) (moment : ℕ)
    (request : Request) (entry : KeptEntry)
    (outcome : Outcome) (after : State)
    → length bytes ≤ request_octets.MOST → message_reading bytes ≡ Ok (Some request)
    → HasReply request
    → fin.get s.kept (record { source = source; bytes = bytes }) ≡ Some entry
    → IsTrue (is_repeat s (max s.clock moment) entry)
    → Step s (event.Datagram source bytes moment) outcome after
    → (outcome.output ≡ Some (record { to = source; bytes = encoding_of (reply_in entry.state) }))
    × (after ≡ record s { clock = max s.clock moment; steps = s.steps + 1 })
repeated s source bytes moment request entry outcome after few read served there repeat step =
    let now = max s.clock moment in
    let choices = choices_of outcome in
    let made = answered s.steps (nat_lt s.steps most_steps) now
    (course_ending s now (course s (event.Datagram source bytes moment) choices) choices) outcome
    after step.makes in
    let course_so =
    course_is s source bytes now request entry few read served there repeat choices.dropped in
    let whole = sym (ap (λ (c : Course). at_moment now
    (s.steps + 1) (course_ending s now c choices)) course_so) ∙ made in
    let parts = same_some _ (outcome, after) whole in (
      ap (λ (a : Outcome × State). a.0.output) (sym parts),
      ap (λ (a : Outcome × State). a.1) (sym parts),
    )

pub idle : (s : State) (moment : ℕ) (outcome : Outcome) (after : State)
    → Step s (event.Turn moment) outcome after → outcome.note ≡ note.Idle
    → IsNothingDueIn s (max s.clock moment)
idle s moment outcome after step noted =
    subst (λ (n : Note). IsAllowed s (max s.clock moment)
    (turn_course s (max s.clock moment) (item_of n)) (choices_of outcome))
    noted step.allowed

pub within_limit : (old : Running) (entries : List (Change × Outcome)) (new : Running)
    (run : RunningRun old entries new) → EachState IsWithinLimit old entries new run
within_limit old [] new run = tt
within_limit old (entry ∷ entries) new run =
    let sound = sound_after old entry.0 entry.1 run.0 run.1 in (
      record { limit = sound.tables.limit; lent = sound.tables.lent },
      within_limit run.0 entries new run.2,
    )
