-- The clock in a run: it never goes back, and each event's moment is at most that at the end.
use Rattle.std.proofs.Common.{◌≡◌, ◌<◌, ◌≤◌, ◌+◌, ◌^◌, All, ℕ, zero, suc, Bool, true, false}
use Rattle.std.proofs.Common.{List, [], ◌∷◌, Some, None, ap, sym, arith}
use Rattle.std.specs.Prelude.{if◌then◌else◌, max, nat_lt}
use Rattle.keyed.proofs.Decide.{same_some}
use Rattle.zone_events.specs.Events.{moment_in, moment_of_change}
use Rattle.zone_events.specs.declared.change.Change.{Change}
use Rattle.zone_events.specs.declared.change.Change.TheVariants as change
use Rattle.zone_events.specs.declared.event.Event.{Event}
use Rattle.zone_events.specs.declared.outcome.Outcome.{Outcome}
use Rattle.ras_machine.specs.Machine.{Ending, at_moment, course, course_ending, moment_of}
use Rattle.ras_machine.specs.Machine.{most_steps}
use Rattle.ras_machine.specs.Soundness.{Sound}
use Rattle.ras_machine.specs.State.{State}
use Rattle.ras_machine.specs.Steps.{Step, choices_of}
use Rattle.ras_core.specs.Runs.{ChangeStep, IsWithinLimit, Run}
use Rattle.sound_steps.specs.Runs.{EachStateOf}
use Rattle.sound_steps.proofs.Along.{run_is_within_limit}

module _ (now steps : ℕ) (outcome : Outcome) (after : State) where
  stamped : (e : Ending) → at_moment now steps e ≡ Some (outcome, after) → after.clock ≡ now
  stamped None is = absurd (cc is)
  stamped (Some e) is =
      sym (ap (λ (x : Outcome × State). x.1.clock)
      (same_some (e.0, record e.1 { clock = now; steps = steps }) (outcome, after) is))

  made : (b : Bool) (e : Ending) → (if b then at_moment now steps e else None)
      ≡ Some (outcome, after) → after.clock ≡ now
  made true e is = stamped e is
  made false e is = absurd (cc is)

-- a step sets the clock to its moment
event_clock : (s : State) (event : Event) (outcome : Outcome) (after : State)
    → Step s event outcome after → after.clock ≡ max s.clock (moment_in event)
event_clock s event outcome after step =
    let choices = choices_of outcome in
    made (moment_of s event) (s.steps + 1) outcome after (nat_lt s.steps most_steps)
    (course_ending s (moment_of s event) (course s event choices) choices) step.makes

step_clock : (s : State) (what : Change) (outcome : Outcome) (after : State)
    → ChangeStep s what outcome after → after.clock ≡ max s.clock (moment_of_change what)
step_clock s (change.Event event) outcome after step = event_clock s event outcome after step
step_clock s (change.PoolChange replacement) outcome after step =
    ap (λ (t : State). t.clock) step.makes

run_clock : (s : State) (entries : List (Change × Outcome)) (after : State)
    → Run s entries after → s.clock ≤ after.clock
run_clock s [] after run = omega (arith, ap (λ (t : State). t.clock) run)
run_clock s (entry ∷ entries) after run =
    omega (
      arith,
      step_clock s entry.0 entry.1 run.0 run.1,
      run_clock run.0 entries after run.2,
    )

pub have_moments : (s : State) (entries : List (Change × Outcome)) (after : State)
    → Run s entries after → after.clock < 2 ^ 53
    → All (λ entry. moment_of_change entry.0 < 2 ^ 53) entries
have_moments s [] after run few k d below = absurd (omega (arith, below))
have_moments s (entry ∷ entries) after run few zero d below =
    omega (
      arith,
      few,
      step_clock s entry.0 entry.1 run.0 run.1,
      run_clock run.0 entries after run.2,
    )
have_moments s (entry ∷ entries) after run few (suc k) d below =
    have_moments run.0 entries after run.2 few k d (omega (arith, below))

-- so a run between two sound states needs no premise on moments
pub between_sound_states : (s : State) (entries : List (Change × Outcome)) (after : State)
    (run : Run s entries after) → Sound s → Sound after
    → EachStateOf IsWithinLimit s entries after run
between_sound_states s entries after run sound ends =
    run_is_within_limit s entries after run (have_moments s entries after run ends.clock) sound
