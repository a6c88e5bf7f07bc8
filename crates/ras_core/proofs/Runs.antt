-- Runs go on by one step.
use Rattle.std.proofs.Common.{◌≡◌, ℕ, ◌+◌, ◌<◌, List, [], ◌∷◌, ◌++◌, length, take, get_or, refl}
use Rattle.std.proofs.Common.{map}
use Rattle.std.proofs.Common.{sym, ◌∙◌, ap, subst, append_assoc, arith, length-append}
use Rattle.std.proofs.lemmas.List.{take_more}
use Rattle.std.specs.List.{zip}
use Rattle.zone_events.specs.declared.change.Change.{Change}
use Rattle.zone_events.specs.declared.change.Change.TheVariants as change
use Rattle.zone_events.specs.declared.event.Event.{Event}
use Rattle.zone_events.specs.declared.outcome.Outcome.{Outcome}
use Rattle.ras_machine.specs.State.{State}
use Rattle.ras_core.specs.Running.{Running}
use Rattle.ras_core.specs.Runs.{Run, RunsOn, RunningStep, RunningRun}
use Rattle.ras_machine.specs.Steps.{Step}

abbrev changes_of : List Event → List Change
changes_of events = map change.Event events

run_more : (z mid after : State) (events : List Event) (made : List Outcome) (event : Event)
    (outcome : Outcome) → length made ≡ length events → Run z (zip (changes_of events) made) mid
    → Step mid event outcome after
    → Run z (zip (changes_of (events ++ event ∷ [])) (made ++ outcome ∷ [])) after
run_more z mid after [] [] event outcome each run step =
    (after, subst (λ (s : State). Step s event outcome after) run step, refl)
run_more z mid after (e ∷ events) (o ∷ made) event outcome each run step = (
  run.0,
  run.1,
  run_more run.0 mid after events made event outcome
      (omega (arith, each)) run.2 step,
)
run_more z mid after [] (o ∷ made) event outcome each run step = absurd (omega (arith, each))
run_more z mid after (e ∷ events) [] event outcome each run step = absurd (omega (arith, each))

steps_more : (old mid new : Running) (events : List Event) (made : List Outcome) (event : Event)
    (outcome : Outcome) → length made ≡ length events
    → RunningRun old (zip (changes_of events) made) mid
    → RunningStep mid event outcome new
    → RunningRun old (zip (changes_of (events ++ event ∷ [])) (made ++ outcome ∷ [])) new
steps_more old mid new [] [] event outcome each run step =
    (new, subst (λ (r : Running). RunningStep r event outcome new) run step, refl)
steps_more old mid new (e ∷ events) (o ∷ made) event outcome each run step = (
  run.0,
  run.1,
  steps_more run.0 mid new events made event outcome
      (omega (arith, each)) run.2 step,
)
steps_more old mid new [] (o ∷ made) event outcome each run step = absurd (omega (arith, each))
steps_more old mid new (e ∷ events) [] event outcome each run step = absurd (omega (arith, each))

pub runs_on : (old mid new : Running) (events : List Event) (i : ℕ) (event : Event)
    (before now : List Outcome) (outcome : Outcome)
    → i < length events → event ≡ get_or events i event → RunsOn old (take i events) before now mid
    → RunningStep mid event outcome new
    → RunsOn old (take (i + 1) events) before (now ++ outcome ∷ []) new
runs_on old mid new events i event before now outcome below is run step =
    let longer : take (i + 1) events ≡ take i events ++ event ∷ [] =
    take_more events i event below ∙ ap (λ e. take i events ++ e ∷ []) (sym is) in
    record {
      made = run.made ++ outcome ∷ [];
      added = ap (λ os. os ++ outcome ∷ []) run.added ∙ append_assoc before run.made (outcome ∷ []);
      each = rw longer (omega (
        arith,
        run.each,
        length-append run.made (outcome ∷ []),
        length-append (take i events) (event ∷ []),
      ));
      run = subst (λ (es : List Event). Run old.state (zip (changes_of es)
          (run.made ++ outcome ∷ [])) new.state)
          (sym longer)
          (run_more old.state mid.state new.state (take i events) run.made event outcome
          run.each run.run step.step);
      steps = subst (λ (es : List Event). RunningRun old (zip (changes_of es)
          (run.made ++ outcome ∷ [])) new)
          (sym longer)
          (steps_more old mid new (take i events) run.made event outcome run.each run.steps
          step);
    }
