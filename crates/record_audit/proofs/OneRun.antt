-- A line leads to one place, and so do lines; each step is counted.
use Rattle.std.proofs.Common.{◌≡◌, ◌≤◌, ◌+◌, ◌++◌, ℕ, List, [], ◌∷◌, length, Bool, true, false, Option}
use Rattle.std.proofs.Common.{Some, None, Result, Ok, Err, inl, inr, sym, ap, subst, ◌∙◌, arith}
use Rattle.std.proofs.Common.{if◌then◌else◌, nat_lt}
use Rattle.zone_events.specs.declared.change.Change.{Change}
use Rattle.zone_events.specs.declared.change.Change.TheVariants as change
use Rattle.zone_events.specs.declared.outcome.Outcome.{Outcome}
use Rattle.ras_machine.specs.Machine.{Ending, at_moment, course, course_ending, moment_of}
use Rattle.ras_machine.specs.Machine.{most_steps}
use Rattle.ras_machine.specs.State.{State}
use Rattle.ras_machine.specs.Steps.{choices_of}
use Rattle.ras_core.specs.Runs.{ChangeStep, Run}
use Rattle.script.specs.declared.event.ScriptEvent.{ScriptEvent}
use Rattle.script.specs.declared.fault.ScriptFault.{ScriptFault}
use Rattle.script.specs.declared.line.Line.{Line}
use Rattle.script.specs.declared.line.Line.TheVariants.{Blank, Zone, Set, Pool, At}
use Rattle.script.specs.declared.outcome.ShownOutcome.{ShownOutcome}
use Rattle.script.specs.declared.read.Script.{Script}
use Rattle.script.specs.Lines.{line_of}
use Rattle.script.specs.Outcomes.{shown_of}
use Rattle.record_audit.specs.declared.fault.LineFault.{LineFault}
use Rattle.record_audit.specs.Audits.{IsNoRecord, StopsAt, first_reading}
use Rattle.record_audit.specs.Records.{Calls, Describes, Ends, Goes, GoesThrough, GoesUnless}
use Rattle.record_audit.specs.Records.{IsRunTo, Opens, ShowsStep, Standing, Takes, beginning}
use Rattle.record_audit.specs.Records.{completed, is_remark, most_octets, opening_of, script_in}
use Rattle.record_audit.specs.Records.{step_by, steps_of}

abbrev Steps : Type 0
Steps = List (Change × Outcome)

-- ---- a line leads to one place

state_in : State → Ending → State
state_in other None = other
state_in other (Some ending) = ending.1

one_step : (s a b : State) (what : Change) (outcome : Outcome) → ChangeStep s what outcome a
    → ChangeStep s what outcome b → a ≡ b
unfolding state_in
one_step s a b (change.Event event) outcome p q = ap (state_in a) (sym p.makes ∙ q.makes)
one_step s a b (change.PoolChange replacement) outcome p q = p.makes ∙ sym q.makes

one_shown : (s a b : State) (what : Change) (shown : Option ShownOutcome) → ShowsStep s what shown a
    → ShowsStep s what shown b → a ≡ b
one_shown s a b what None p q = absurd p
one_shown s a b what (Some shown) p q =
    one_step s a b what (completed s shown.outcome) p.step q.step

module _ (old x y : Standing) where
  one_opened : (event : ScriptEvent) (r : Result Script ScriptFault) → Opens r event x
      → Opens r event y → x ≡ y
  one_opened event (Err fault) p q = absurd p
  one_opened event (Ok script) p q = p.1 ∙ sym q.1

  one_described : (line : Option Line) → Describes old line x → Describes old line y → x ≡ y
  one_described None p q = absurd p
  one_described (Some (At event)) p q = one_opened event (script_in old.said) p q
  one_described (Some Blank) p q = p.1 ∙ sym q.1
  one_described (Some (Zone name address)) p q = p.1 ∙ sym q.1
  one_described (Some (Set setting)) p q = p.1 ∙ sym q.1
  one_described (Some (Pool pool)) p q = p.1 ∙ sym q.1

  one_called : (line : Option Line) → Calls old line x → Calls old line y → x ≡ y
  one_called None p q = absurd p
  one_called (Some (At event)) p q = p ∙ sym q
  one_called (Some Blank) p q = p ∙ sym q
  one_called (Some (Zone name address)) p q = absurd p
  one_called (Some (Set setting)) p q = absurd p
  one_called (Some (Pool pool)) p q = absurd p

  one_ended : (s : State) (what : Change) (shown : Option ShownOutcome) → Ends s what shown old x
      → Ends s what shown old y → x ≡ y
  one_ended s what shown p q =
      p.2 ∙ ap (λ (after : State). record old { zone = Some after; awaited = None })
      (one_shown s p.0 q.0 what shown p.1 q.1) ∙ sym q.2

  one_taken : (zone : Option State) (awaited : Option Change) (line : List ℕ)
      → Takes zone awaited old line x → Takes zone awaited old line y → x ≡ y
  one_taken None awaited line p q = one_described (line_of line) p q
  one_taken (Some s) None line p q = one_called (line_of line) p q
  one_taken (Some s) (Some what) line p q = one_ended s what (shown_of line) p q

  one_unless : (b : Bool) (line : List ℕ) → GoesUnless b old line x → GoesUnless b old line y
      → x ≡ y
  one_unless true line p q = p ∙ sym q
  one_unless false line p q = one_taken old.zone old.awaited line p q

  pub one_place : (line : List ℕ) → Goes old line x → Goes old line y → x ≡ y
  one_place line p q = one_unless (is_remark line) line p.1 q.1

through_one : (lines : List (List ℕ)) (s t : Steps) (old x y : Standing)
    → GoesThrough old lines s x → GoesThrough old lines t y → x ≡ y
through_one [] s t old x y p q = p.0 ∙ sym q.0
through_one (line ∷ lines) s t old x y p q =
    through_one lines p.2 q.2 p.0 x y p.3
    (subst (λ (mid : Standing). GoesThrough mid lines q.2 y)
    (one_place old q.0 p.0 line q.1 p.1) q.3)

-- and so the steps that are recorded in lines are the same, however an audit goes on
pub one_record : (lines : List (List ℕ)) (s t : Steps) (old x y : Standing)
    → GoesThrough old lines s x → GoesThrough old lines t y → s ≡ t
one_record [] s t old x y p q = p.1 ∙ sym q.1
one_record (line ∷ lines) s t old x y p q =
    p.4
    ∙ ap (λ (others : Steps). step_by old line ++ others)
    (one_record lines p.2 q.2 p.0 x y p.3
    (subst (λ (mid : Standing). GoesThrough mid lines q.2 y)
    (one_place old q.0 p.0 line q.1 p.1) q.3))
    ∙ sym q.4

-- ---- a line that an audit doesn't pass

-- an audit that goes on behind all these goes on behind the next one, too
passes : (before : List (List ℕ)) (line : List ℕ) (others : List (List ℕ)) (s t : Steps)
    (old mid new : Standing) → GoesThrough old before s mid
    → GoesThrough old (before ++ line ∷ others) t new → (after : Standing) × Goes mid line after
passes [] line others s t old mid new p q =
    (q.0, subst (λ (z : Standing). Goes z line q.0) (sym p.0) q.1)
passes (first ∷ before) line others s t old mid new p q =
    passes before line others p.2 q.2 p.0 mid new p.3
    (subst (λ (z : Standing). GoesThrough z (before ++ line ∷ others) q.2 new)
    (one_place old q.0 p.0 first q.1 p.1) q.3)

pub no_record : (octets : List ℕ) (number : ℕ) (fault : LineFault)
    → StopsAt first_reading octets number fault → IsNoRecord octets
no_record octets number fault stop = λ steps new whole. elim stop.place [
  | inl h ↦
      let passed = passes stop.before stop.line h.0 stop.steps steps beginning stop.mid new
      stop.through (subst (λ (lines : List (List ℕ)). GoesThrough beginning lines steps new) h.1
      whole.through) in
      stop.cannot passed.0 passed.1
  | inr t ↦
      let few : length stop.line ≤ most_octets = subst (λ (line : List ℕ). length line ≤ most_octets)
      t.is_begun whole.few in
      absurd (omega (arith, few, t.long))
]

-- ---- steps are counted

steps_in : Ending → ℕ
steps_in None = 0
steps_in (Some ending) = ending.1.steps

module _ (now steps : ℕ) (outcome : Outcome) (after : State) where
  counted_at : (e : Ending) → at_moment now steps e ≡ Some (outcome, after) → after.steps ≡ steps
  unfolding steps_in
  counted_at None is = absurd (cc is)
  counted_at (Some e) is = sym (ap steps_in is)

  counted_if : (b : Bool) (e : Ending) → (if b then at_moment now steps e else None)
      ≡ Some (outcome, after) → after.steps ≡ steps
  counted_if true e is = counted_at e is
  counted_if false e is = absurd (cc is)

pub counted_step : (s : State) (what : Change) (outcome : Outcome) (after : State)
    → ChangeStep s what outcome after → after.steps ≡ s.steps + 1
counted_step s (change.Event event) outcome after step =
    counted_if (moment_of s event) (s.steps + 1) outcome after (nat_lt s.steps most_steps)
    (course_ending s (moment_of s event) (course s event (choices_of outcome)) (choices_of outcome))
    step.makes
counted_step s (change.PoolChange replacement) outcome after step =
    ap (λ (t : State). t.steps) step.makes

counted_run : (s : State) (entries : Steps) (after : State) → Run s entries after
    → after.steps ≡ s.steps + length entries
counted_run s [] after run = omega (arith, ap (λ (t : State). t.steps) run)
counted_run s (entry ∷ entries) after run =
    omega (
      arith,
      counted_step s entry.0 entry.1 run.0 run.1,
      counted_run run.0 entries after run.2,
    )

pub steps_counted : (steps : Steps) (zone : Option State) → IsRunTo steps zone
    → steps_of zone ≡ length steps
steps_counted steps None run = sym (ap (λ (s : Steps). length s) run)
steps_counted steps (Some s) run =
    omega (arith, counted_run (opening_of run.0) steps s run.2)
