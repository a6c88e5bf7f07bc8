-- What holds of each step holds of each step of a run; and what is handed out is unused.
use Rattle.std.proofs.Common.{◌≡◌, ◌+◌, ℕ, Bool, true, false, List, [], ◌∷◌, Some, None, ap, refl}
use Rattle.std.proofs.Common.{subst, sym, ◌∙◌}
use Rattle.std.specs.Prelude.{IfSome, Option, if◌then◌else◌, nat_lt}
use Rattle.keyed.proofs.Decide.{same_some}
use Rattle.pools.specs.declared.interface.Lend.{Lend}
use Rattle.zone_events.specs.declared.change.Change.{Change}
use Rattle.zone_events.specs.declared.change.Change.TheVariants as change
use Rattle.zone_events.specs.declared.change.PoolChange.{PoolChange}
use Rattle.zone_events.specs.declared.event.Event.{Event}
use Rattle.zone_events.specs.declared.event.Event.TheVariants as event
use Rattle.zone_events.specs.declared.outcome.Outcome.{Outcome}
use Rattle.zone_tables.specs.Pools.{RequestedUnits}
use Rattle.ras_requests.specs.Plans.{Plan, Served, Settled, Naming, Asking}
use Rattle.ras_machine.specs.Keeping.{Task}
use Rattle.ras_machine.specs.Machine.{Course, Ignoring, Hearing, Repeating, Serving, Doing, Idle}
use Rattle.ras_machine.specs.Machine.{Ending, at_moment, course, course_ending, moment_of}
use Rattle.ras_machine.specs.Machine.{most_steps, plan_ending, with_answer}
use Rattle.ras_machine.specs.State.{State}
use Rattle.ras_machine.specs.Steps.{IsAllowed, IsUnusedIn, MayChoose, Step, choices_of}
use Rattle.ras_machine.specs.Replacing.{Replaces}
use Rattle.ras_core.specs.Runs.{ChangeStep, Run}
use Rattle.ras_core.proofs.Lawful.{repeated}
use Rattle.sound_steps.specs.Runs.{EachStepOf, HandsOutUnused, RepeatsKeptReply}

pub of_each_step : (P : State → Change → Outcome → State → Type 0)
    → ((s : State) (what : Change) (outcome : Outcome) (after : State)
    → ChangeStep s what outcome after → P s what outcome after)
    → (s : State) (entries : List (Change × Outcome)) (after : State) (run : Run s entries after)
    → EachStepOf P s entries after run
of_each_step P so s [] after run = tt
of_each_step P so s (entry ∷ entries) after run =
    (so s entry.0 entry.1 run.0 run.1, of_each_step P so run.0 entries after run.2)

pub repeats_kept : (s : State) (what : Change) (outcome : Outcome) (after : State)
    → ChangeStep s what outcome after → RepeatsKeptReply s what outcome after
repeats_kept s (change.Event (event.Datagram source bytes moment)) outcome after step =
    λ request entry few read served there repeat.
    (repeated s source bytes moment request entry outcome after few read served there repeat
    step).0
repeats_kept s (change.Event (event.Turn moment)) outcome after step = tt
repeats_kept s (change.PoolChange replacement) outcome after step = tt

module _ (s : State) (now : ℕ) (outcome : Outcome) (mid : State) where
  -- an outcome that hands out nothing
  nothing : (o : Outcome) (t : State) → o.given ≡ None
      → (let e : Ending = Some (o, t) in e) ≡ Some (outcome, mid)
      → IfSome outcome.given (IsUnusedIn s)
  nothing o t none is =
      subst (λ (given : Option (List ℕ)). IfSome given (IsUnusedIn s))
      (sym none ∙ ap (λ (x : Outcome × State). x.0.given) (same_some (o, t) (outcome, mid) is)) tt

  asked : (task : Task) (ask : RequestedUnits) (lent : ℕ → Served) (refused : Served)
      (answer : Option Lend) → with_answer s now task ask lent refused answer ≡ Some (outcome, mid)
      → IfSome outcome.given (IsUnusedIn s)
  asked task ask lent refused None is = absurd (cc is)
  asked task ask lent refused (Some answer) is = nothing _ _ refl is

  planned : (task : Task) (plan : Plan) → MayChoose s plan (choices_of outcome)
      → plan_ending s now task plan (choices_of outcome) ≡ Some (outcome, mid)
      → IfSome outcome.given (IsUnusedIn s)
  planned task (Settled served) may is = nothing _ _ refl is
  planned task (Naming named) may is = may
  planned task (Asking ask lent refused) may is =
      asked task ask lent refused outcome.answer is

  along : (c : Course) → IsAllowed s now c (choices_of outcome)
      → course_ending s now c (choices_of outcome) ≡ Some (outcome, mid)
      → IfSome outcome.given (IsUnusedIn s)
  along (Ignoring cause) allowed is = nothing _ _ refl is
  along (Hearing endpoint) allowed is = nothing _ _ refl is
  along (Repeating datagram) allowed is = nothing _ _ refl is
  along (Serving task) allowed is = planned task task.plan allowed.1 is
  along (Doing item) allowed is = nothing _ _ refl is
  along Idle allowed is = nothing _ _ refl is

module _ (s : State) (now steps : ℕ) (c : Course) (outcome : Outcome) (after : State)
    (allowed : IsAllowed s now c (choices_of outcome)) where
  stamped : (e : Ending) → e ≡ course_ending s now c (choices_of outcome)
      → at_moment now steps e ≡ Some (outcome, after) → IfSome outcome.given (IsUnusedIn s)
  stamped None e_is is = absurd (cc is)
  stamped (Some e) e_is is =
      let same = ap (λ (x : Outcome × State). x.0)
      (same_some (e.0, record e.1 { clock = now; steps = steps }) (outcome, after) is) in
      along s now outcome e.1 c allowed
      (sym e_is ∙ ap (λ (o : Outcome). Some (o, e.1)) same)

  made : (b : Bool)
      → (if b then at_moment now steps (course_ending s now c (choices_of outcome)) else None)
      ≡ Some (outcome, after) → IfSome outcome.given (IsUnusedIn s)
  made true is = stamped (course_ending s now c (choices_of outcome)) refl is
  made false is = absurd (cc is)

event_hands_out_unused : (s : State) (event : Event) (outcome : Outcome) (after : State)
    → Step s event outcome after → IfSome outcome.given (IsUnusedIn s)
event_hands_out_unused s event outcome after step =
    let choices = choices_of outcome in
    made s (moment_of s event) (s.steps + 1) (course s event choices) outcome after step.allowed
    (nat_lt s.steps most_steps) step.makes

-- a pool that takes the place of another one hands out none
replacement_hands_out_none : (s : State) (replacement : PoolChange) (outcome : Outcome)
    (after : State) → Replaces s replacement outcome after → IfSome outcome.given (IsUnusedIn s)
replacement_hands_out_none s replacement outcome after step =
    subst (λ (given : Option (List ℕ)). IfSome given (IsUnusedIn s))
    (sym (ap (λ (o : Outcome). o.given) step.told)) tt

pub hands_out_unused : (s : State) (what : Change) (outcome : Outcome) (after : State)
    → ChangeStep s what outcome after → HandsOutUnused s what outcome after
hands_out_unused s (change.Event event) outcome after step =
    event_hands_out_unused s event outcome after step
hands_out_unused s (change.PoolChange replacement) outcome after step =
    replacement_hands_out_none s replacement outcome after step
