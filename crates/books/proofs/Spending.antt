-- What a step does to the bandwidth in use, to the settings and to the number of steps.
use Rattle.std.proofs.Common.{◌≡◌, ◌≤◌, ◌+◌, ℕ, Bool, true, false, List, [], ◌∷◌, sym}
use Rattle.std.proofs.Common.{◌∙◌}
use Rattle.std.proofs.Common.{ap, subst, length, Some, None, arith}
use Rattle.std.specs.Prelude.{nat_lt, if◌then◌else◌}
use Rattle.std.proofs.lemmas.List.Sums.{sum_by-cons}
use Rattle.keyed.proofs.Decide.{same_some}
use Rattle.admission.specs.Calls.{in_use}
use Rattle.zone_events.specs.declared.change.Change.{Change}
use Rattle.zone_events.specs.declared.change.Change.TheVariants as change
use Rattle.zone_events.specs.declared.change.PoolChange.{PoolChange}
use Rattle.zone_events.specs.declared.event.Event.{Event}
use Rattle.zone_events.specs.declared.outcome.Outcome.{Outcome}
use Rattle.ras_machine.specs.Replacing.{Replaces}
use Rattle.ras_machine.specs.State.{State}
use Rattle.ras_machine.specs.Machine.{Ending, at_moment, course, most_steps}
use Rattle.ras_machine.specs.Machine.{course_ending, moment_of}
use Rattle.ras_machine.specs.Steps.{Step, choices_of}
use Rattle.ras_core.specs.Runs.{ChangeStep}
use Rattle.books.specs.declared.book.Entry as book
use Rattle.books.specs.Books.{BookRun}
use Rattle.books.specs.Totals.{lent_of, units_lent}
use Rattle.books.proofs.Additions.{Adds}
use Rattle.books.proofs.Courses.{along, ended_by}

-- A step leaves the settings as they are; no more is in use than before, plus what was lent in the
-- step; and the machine made one step more.
pub record IsFair (s : State) (outcome : Outcome) (after : State) : Type 0 where
  pub settings : after.tables.config ≡ s.tables.config
  pub units : in_use after.tables.calls ≤ in_use s.tables.calls + units_lent outcome.answer
  pub steps : after.steps ≡ s.steps + 1

module _ (s : State) (now steps : ℕ) (outcome : Outcome) (after : State) where
  stamped : (e : Ending) → ((mid : State) → e ≡ Some (outcome, mid)
      → Adds s.tables mid.tables (units_lent outcome.answer))
      → at_moment now steps e ≡ Some (outcome, after)
      → Adds s.tables after.tables (units_lent outcome.answer) × (after.steps ≡ steps)
  stamped None adds is = absurd (cc is)
  stamped (Some e) adds is =
      let same = same_some (e.0, record e.1 { clock = now; steps = steps }) (outcome, after) is in
      let out : e.0 ≡ outcome = ap (λ (x : Outcome × State). x.0) same in
      let end : record e.1 { clock = now; steps = steps } ≡ after = ap
      (λ (x : Outcome × State). x.1) same in (
        subst (λ (x : State). Adds s.tables x.tables (units_lent outcome.answer)) end
            (let adds_so = adds e.1 (ap (λ (o : Outcome). Some (o, e.1)) out) in
            record { settings = adds_so.settings; units_are = adds_so.units_are }),
        sym (ap (λ (x : State). x.steps) end),
      )

  unclosed : (b : Bool) (e : Ending) → (if b then at_moment now steps e else None) ≡ Some
      (outcome, after)
      → at_moment now steps e ≡ Some (outcome, after)
  unclosed true e is = is
  unclosed false e is = absurd (cc is)

event_is_fair : (s : State) (what : Event) (outcome : Outcome) (after : State)
    → Step s what outcome after → IsFair s outcome after
event_is_fair s what outcome after step =
    let now = moment_of s what in
    let choices = choices_of outcome in
    let ending = course_ending s now (course s what choices) choices in
    let made = unclosed s now (s.steps + 1) outcome after (nat_lt s.steps most_steps) ending
    step.makes in
    let both = stamped s now (s.steps + 1) outcome after ending
    (λ mid is. ended_by s now (course s what choices) outcome mid (along s now what choices) is)
    made in
    record { settings = both.0.settings; units = both.0.units_are; steps = both.1 }

-- a pool that takes the place of another one lends nothing by that, and nothing comes back
replacement_is_fair : (s : State) (what : PoolChange) (outcome : Outcome) (after : State)
    → Replaces s what outcome after → IsFair s outcome after
replacement_is_fair s what outcome after step = record {
  settings = ap (λ (x : State). x.tables.config) step.makes;
  units = omega (
    arith,
    ap (λ (x : State). in_use x.tables.calls) step.makes,
    ap (λ (o : Outcome). units_lent o.answer) step.told,
  );
  steps = ap (λ (x : State). x.steps) step.makes;
}

pub step_is_fair : (s : State) (what : Change) (outcome : Outcome) (after : State)
    → ChangeStep s what outcome after → IsFair s outcome after
step_is_fair s (change.Event event) outcome after step = event_is_fair s event outcome after step
step_is_fair s (change.PoolChange replacement) outcome after step =
    replacement_is_fair s replacement outcome after step

-- So it is of all steps of a book together.
pub record AreFair (base : State) (entries : List book.Entry) (now : State) : Type 0 where
  pub settings : now.tables.config ≡ base.tables.config
  pub units : in_use now.tables.calls ≤ in_use base.tables.calls + lent_of entries
  pub steps : now.steps ≡ base.steps + length entries

pub book_is_fair : (base now : State) (entries : List book.Entry) → BookRun base entries now
    → AreFair base entries now
book_is_fair base now [] run = record {
  settings = ap (λ (s : State). s.tables.config) run;
  units = omega (arith, ap (λ (s : State). in_use s.tables.calls) run);
  steps = omega (arith, ap (λ (s : State). s.steps) run);
}
book_is_fair base now (e ∷ entries) run =
    let first = step_is_fair base e.event e.outcome run.0 run.1 in
    let rest = book_is_fair run.0 now entries run.2 in
    let all : lent_of (e ∷ entries) ≡ units_lent e.outcome.answer + lent_of entries =
    sum_by-cons (λ (x : book.Entry). units_lent x.outcome.answer) e entries in record {
      settings = rest.settings ∙ first.settings;
      units = omega (arith, all, first.units, rest.units);
      steps = omega (arith, first.steps, rest.steps);
    }
