-- An audit goes on behind the lines of the steps of a run.
use Rattle.std.proofs.Common.{◌≡◌, ◌<◌, ◌+◌, ◌^◌, ℕ, List, [], ◌∷◌, ◌++◌, length, map}
use Rattle.std.proofs.Common.{codes, Bool, true, false, Option, Some, None, refl, sym, ap, ◌∙◌}
use Rattle.std.proofs.Common.{subst}
use Rattle.std.proofs.Common.{arith, if◌then◌else◌, nat_lt, drop}
use Rattle.std.proofs.lemmas.Bool.Decides.{nat_tests}
use Rattle.std.proofs.lemmas.Fmt.{decimal_nonempty}
use Rattle.std.specs.Fmt.{decimal}
use Rattle.zone_events.specs.declared.change.Change.TheVariants as change
use Rattle.zone_events.specs.declared.event.Event.{Event}
use Rattle.zone_events.specs.declared.event.Event.TheVariants.{Datagram, Turn}
use Rattle.zone_events.specs.declared.outcome.Outcome.{Outcome}
use Rattle.ras_machine.specs.Machine.{Ending, at_moment, course, course_ending, moment_of}
use Rattle.ras_machine.specs.Machine.{most_steps}
use Rattle.ras_machine.specs.State.{State}
use Rattle.ras_machine.specs.Steps.{Step, choices_of}
use Rattle.script.specs.declared.line.Line.{Line}
use Rattle.script.specs.declared.outcome.ShownOutcome.{ShownOutcome}
use Rattle.script.specs.Said.{Said}
use Rattle.script.specs.Prints.{answer_text, dropped_text, note_text, output_text}
use Rattle.record_audit.specs.Records.{Calls, Ends, GoesThrough, Standing, handed_out, is_remark}
use Rattle.record_audit.specs.Records.{step_shown}
use Rattle.record_audit.specs.Written.{datagram_text, event_text, turn_text}
use Rattle.recording.proofs.LineWords.{Without, number_without}
use Rattle.record_laws.specs.Outcomes.{outcome_text}
use Rattle.record_laws.specs.WholeRecords.{AreTold, ToldRun, made}
use Rattle.record_audit.proofs.OneRun.{counted_step}
use Rattle.record_audit.proofs.ReadingBack as reading
use Rattle.record_laws.proofs.OutcomesRead.{read_back}
use Rattle.record_laws.proofs.Reached.{IsReached, given_is_told, next_reached}
use Rattle.record_laws.proofs.RecordLines.{Steps, goes_on, no_remark}

-- ---- each step is counted

may_step : (b : Bool) (e : Ending) (last : Outcome × State)
    → (if b then e else None) ≡ Some last → b ≡ true
may_step true e last is = refl
may_step false e last is = absurd (cc is)

-- no more steps are made than have numbers
pub few_steps : (s : State) (event : Event) (outcome : Outcome) (after : State)
    → Step s event outcome after → s.steps + 1 < 2 ^ 64
few_steps s event outcome after step =
    let below : nat_lt s.steps most_steps ≡ true = may_step (nat_lt s.steps most_steps)
    (at_moment (moment_of s event) (s.steps + 1) (course_ending s (moment_of s event)
    (course s event (choices_of outcome)) (choices_of outcome))) (outcome, after) step.makes in
    let few : s.steps < most_steps = grind (arith, nat_tests, below) in
    omega (arith, few)

pub counted : (s : State) (event : Event) (outcome : Outcome) (after : State)
    → Step s event outcome after → after.steps ≡ s.steps + 1
counted s event outcome after step =
    counted_step s (change.Event event) outcome after step

-- ---- the lines of steps

abbrev pub step_texts : ℕ → Event × Outcome → List (List ℕ)
step_texts number step = event_text step.0 ∷ outcome_text number step.1 ∷ []

-- the lines of steps, numbered from here
abbrev pub texts_from : ℕ → List (Event × Outcome) → List (List ℕ)
texts_from number [] = []
texts_from number (step ∷ steps) =
    event_text step.0 ∷ outcome_text number step.1 ∷ texts_from (number + 1) steps

number_mark : (n : ℕ) → n < 2 ^ 64 → (outcome : Outcome)
    → is_remark (outcome_text n outcome) ≡ false
number_mark n small outcome =
    by (decimal n) (number_without n small 35 (λ c r. grind (arith, nat_tests)))
    (decimal_nonempty n small)
  where
    by : (ds : List ℕ) → Without 35 ds → 0 < length ds
        → is_remark (ds ++ codes " " ++ note_text outcome.note ++ answer_text outcome.answer
        ++ dropped_text outcome.dropped ++ output_text outcome.output) ≡ false
    by [] none some = absurd (omega arith)
    by (d ∷ ds) none some = no_remark d (ds ++ codes " " ++ note_text outcome.note
        ++ answer_text outcome.answer ++ dropped_text outcome.dropped
        ++ output_text outcome.output) none.0

pub event_mark : (event : Event) → is_remark (event_text event) ≡ false
event_mark (Datagram source bytes moment) =
    no_remark 97 (drop 1 (datagram_text source bytes moment)) refl
event_mark (Turn moment) = no_remark 116 (drop 1 (turn_text moment)) refl

-- ---- how an audit goes on

module _ (said : Said) where
  abbrev pub at : State → Standing
  at s = record { said = said; zone = Some s; awaited = None }

  abbrev pub awaiting : State → Event → Standing
  awaiting s event = record { said = said; zone = Some s; awaited = Some (change.Event event) }

  -- the line of an outcome ends the step that is awaited
  pub ended : (s mid : State) (event : Event) (outcome : Outcome) → AreTold s event outcome
      → IsReached s → Step s event outcome mid
      → (lines : List (List ℕ)) (others : Steps) (new : Standing)
      → GoesThrough (at mid) lines others new
      → GoesThrough (awaiting s event) (outcome_text (s.steps + 1) outcome ∷ lines)
      (made (event, outcome) ∷ others) new
  ended s mid event outcome told reached step lines others new rest =
      let number = s.steps + 1 in
      let given = given_is_told s event outcome mid told reached step in
      let few = few_steps s event outcome mid step in
      let back = (read_back number outcome few told.outcome_is).back in
      let whole : Step s event (record outcome { given = handed_out s outcome.note outcome.output })
      mid = subst (λ (g : Option (List ℕ)). Step s event (record outcome { given = g }) mid)
      (sym given) step in
      goes_on (awaiting s event) (at mid) new (outcome_text number outcome) lines
      (made (event, outcome) ∷ []) others
      (number_mark number few outcome) told.short_outcome
      (subst (λ (r : Option ShownOutcome). Ends s (change.Event event) r (awaiting s event)
      (at mid))
      (sym back) (mid, record { next = refl; step = whole }, refl))
      (ap (step_shown s (change.Event event)) back
      ∙ ap (λ (g : Option (List ℕ)). (change.Event event, record outcome { given = g }) ∷ [])
      given)
      rest

  -- behind the line of an event, if an audit goes on behind the lines of the further steps
  after_event : (step : Event × Outcome) (steps : List (Event × Outcome)) (s mid after : State)
      (number : ℕ) → number ≡ s.steps + 1 → AreTold s step.0 step.1 → IsReached s
      → Step s step.0 step.1 mid
      → GoesThrough (at mid) (texts_from (number + 1) steps) (map made steps) (at after)
      → GoesThrough (awaiting s step.0)
      (outcome_text number step.1 ∷ texts_from (number + 1) steps) (map made (step ∷ steps))
      (at after)
  after_event step steps s mid after number is told reached makes rest =
      subst (λ (n : ℕ). GoesThrough (awaiting s step.0)
      (outcome_text n step.1 ∷ texts_from (number + 1) steps) (map made (step ∷ steps)) (at after))
      (sym is)
      (ended s mid step.0 step.1 told reached makes (texts_from (number + 1) steps)
      (map made steps) (at after) rest)

  steps_through : (steps : List (Event × Outcome)) (s after : State) (number : ℕ)
      → number ≡ s.steps + 1 → IsReached s → ToldRun s steps after
      → GoesThrough (at s) (texts_from number steps) (map made steps) (at after)
  steps_through [] s after number is reached run = (ap at run, refl)
  steps_through (step ∷ steps) s after number is reached run =
      goes_on (at s) (awaiting s step.0) (at after) (event_text step.0)
      (outcome_text number step.1 ∷ texts_from (number + 1) steps) [] (map made (step ∷ steps))
      (event_mark step.0) run.0.short_event
      (subst (λ (line : Option Line). Calls (at s) line (awaiting s step.0))
      (sym (reading.read_back step.0 run.0.event_is).back) refl)
      refl
      (after_event step steps s run.1 after number is run.0 reached run.2
      (steps_through steps run.1 after (number + 1)
      (omega (arith, is, counted s step.0 step.1 run.1 run.2))
      (next_reached s step.0 step.1 run.1 run.0 reached run.2) run.3))

  -- behind the line of the first event
  pub event_through : (step : Event × Outcome) (steps : List (Event × Outcome)) (s after : State)
      (number : ℕ) → number ≡ s.steps + 1 → IsReached s → ToldRun s (step ∷ steps) after
      → GoesThrough (awaiting s step.0)
      (outcome_text number step.1 ∷ texts_from (number + 1) steps) (map made (step ∷ steps))
      (at after)
  event_through step steps s after number is reached run =
      after_event step steps s run.1 after number is run.0 reached run.2
      (steps_through steps run.1 after (number + 1)
      (omega (arith, is, counted s step.0 step.1 run.1 run.2))
      (next_reached s step.0 step.1 run.1 run.0 reached run.2) run.3)
