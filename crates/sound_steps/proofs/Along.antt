-- Each state of a run from a sound state is sound, and so within the limit.
use Rattle.std.proofs.Common.{◌<◌, ◌^◌, All, List, [], ◌∷◌, suc, arith}
use Rattle.zone_events.specs.Events.{moment_of_change}
use Rattle.zone_events.specs.declared.change.Change.{Change}
use Rattle.zone_events.specs.declared.outcome.Outcome.{Outcome}
use Rattle.ras_machine.specs.Soundness.{Sound}
use Rattle.ras_machine.specs.State.{State}
use Rattle.ras_core.specs.Runs.{IsWithinLimit, Run}
use Rattle.sound_steps.specs.Runs.{EachStateOf}
use Rattle.sound_steps.proofs.Steps.{change_is_sound}

-- the moment of each entry is below 2^53
abbrev HaveMoments : List (Change × Outcome) → Type 0
HaveMoments entries = All (λ entry. moment_of_change entry.0 < 2 ^ 53) entries

-- each step of it leads to a sound state
pub run_is_sound : (s : State) (entries : List (Change × Outcome)) (after : State)
    (run : Run s entries after) → HaveMoments entries → Sound s
    → EachStateOf Sound s entries after run
run_is_sound s [] after run moments sound = tt
run_is_sound s (entry ∷ entries) after run moments sound =
    let first = change_is_sound s entry.0 entry.1 run.0 (moments 0 entry (omega arith)) sound run.1
    in (
      first,
      run_is_sound run.0 entries after run.2
          (λ k d below. moments (suc k) d (omega (arith, below))) first,
    )

-- what follows of each state by itself holds of each state of a run
follows : (P Q : State → Type 0) → ((s : State) → P s → Q s) → (s : State)
    (entries : List (Change × Outcome)) (after : State) (run : Run s entries after)
    → EachStateOf P s entries after run → EachStateOf Q s entries after run
follows P Q so s [] after run each = tt
follows P Q so s (entry ∷ entries) after run each =
    (so run.0 each.0, follows P Q so run.0 entries after run.2 each.1)

-- so each of them is within the limit
pub run_is_within_limit : (s : State) (entries : List (Change × Outcome)) (after : State)
    (run : Run s entries after) → HaveMoments entries → Sound s
    → EachStateOf IsWithinLimit s entries after run
run_is_within_limit s entries after run moments sound =
    follows Sound IsWithinLimit
    (λ t is. record { limit = (is.tables).limit; lent = (is.tables).lent }) s entries after run
    (run_is_sound s entries after run moments sound)
