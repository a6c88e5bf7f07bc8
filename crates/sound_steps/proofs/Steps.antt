-- A step leads from a sound state to a sound one.
use Rattle.std.proofs.Common.{◌≡◌, ◌<◌, ◌+◌, ◌^◌, All, ℕ, Bool, true, false, ap, refl}
use Rattle.std.proofs.Common.{Some, None, arith, subst}
use Rattle.std.specs.Prelude.{if◌then◌else◌, max, nat_lt}
use Rattle.keyed.proofs.Decide.{same_some}
use Rattle.zone_events.specs.Events.{moment_in, moment_of_change}
use Rattle.zone_events.specs.declared.change.Change.{Change}
use Rattle.zone_events.specs.declared.change.Change.TheVariants as change
use Rattle.zone_events.specs.declared.event.Event.{Event}
use Rattle.zone_events.specs.declared.outcome.Outcome.{Outcome}
use Rattle.zone_tables.specs.Soundness.{HasCounts}
use Rattle.ras_machine.specs.Machine.{Ending, at_moment, course, course_ending, moment_of}
use Rattle.ras_machine.specs.Machine.{most_steps}
use Rattle.ras_machine.specs.Soundness.{Sound}
use Rattle.ras_machine.specs.State.{State}
use Rattle.ras_machine.specs.Steps.{Step, choices_of}
use Rattle.ras_core.specs.Runs.{ChangeStep}
use Rattle.sound_steps.proofs.Courses.{along}
use Rattle.sound_steps.proofs.Endings.{IsSoundEnd, ended_sound}
use Rattle.sound_steps.proofs.TakenOver.{replacement_is_sound}
use Rattle.sound_steps.proofs.Tests.{below}

module _ (s : State) (sound : Sound s) (now : ℕ) (moment : now < 2 ^ 53) (outcome : Outcome)
    (after : State) where
  -- the clock stands at a moment, and one more step was made
  clocked : (mid : State) → s.steps < most_steps → IsSoundEnd s mid
      → Sound (record mid { clock = now; steps = s.steps + 1 })
  clocked mid few end = record {
    tables = end.tables;
    counts = subst (λ (most : ℕ). All (HasCounts most) (mid.tables).pools) one_more
        (end.counts (2 ^ 62 + s.steps) sound.counts);
    few_kept = (end.kept).few;
    entries = (end.kept).entries;
    births = (end.kept).births;
    born = (end.kept).born;
    waiting = (end.kept).waiting;
    clock = moment;
    least_number = end.least_number;
    most_number = end.most_number;
    steps = omega (arith, few);
  } where
    one_more : 2 ^ 62 + s.steps + 1 ≡ 2 ^ 62 + (s.steps + 1)
    one_more = omega arith

  -- the state after a step is what its course left, at its moment
  stamped : (e : Ending) → s.steps < most_steps
      → ((mid : State) → e ≡ Some (outcome, mid) → IsSoundEnd s mid)
      → at_moment now (s.steps + 1) e ≡ Some (outcome, after) → Sound after
  stamped None few ends is = absurd (cc is)
  stamped (Some e) few ends is =
      let same = same_some (e.0, record e.1 { clock = now; steps = s.steps + 1 })
      (outcome, after) is in
      subst (λ (x : Outcome × State). Sound x.1) same
      (clocked e.1 few (ends e.1
      (ap (λ (x : Outcome × State). Some (x.0, e.1)) same)))

  -- the machine isn't closed
  made : (b : Bool) → nat_lt s.steps most_steps ≡ b → (e : Ending)
      → ((mid : State) → e ≡ Some (outcome, mid) → IsSoundEnd s mid)
      → (if b then at_moment now (s.steps + 1) e else None) ≡ Some (outcome, after)
      → Sound after
  made true unclosed e ends is = stamped e (below s.steps most_steps unclosed) ends is
  made false closed e ends is = absurd (cc is)

-- the later of two moments is a moment
later : (m n : ℕ) → m < 2 ^ 53 → n < 2 ^ 53 → max m n < 2 ^ 53
later m n few fewer = omega arith

-- the course of an event, by choices that may be made, leaves a sound state
step_is_sound : (s : State) (event : Event) (outcome : Outcome) (after : State)
    → moment_in event < 2 ^ 53 → Sound s → Step s event outcome after → Sound after
step_is_sound s event outcome after moment sound step =
    let now = moment_of s event in
    let choices = choices_of outcome in
    let c = course s event choices in
    made s sound now (later s.clock (moment_in event) sound.clock moment) outcome after
    (nat_lt s.steps most_steps) refl (course_ending s now c choices)
    (λ mid is. ended_sound s sound now c choices outcome mid (along s sound now event choices)
    step.allowed is) step.makes

-- and so does a step of either kind
pub change_is_sound : (s : State) (what : Change) (outcome : Outcome) (after : State)
    → moment_of_change what < 2 ^ 53 → Sound s → ChangeStep s what outcome after → Sound after
change_is_sound s (change.Event event) outcome after moment sound step =
    step_is_sound s event outcome after moment sound step
change_is_sound s (change.PoolChange replacement) outcome after moment sound step =
    replacement_is_sound s replacement outcome after moment sound step
