-- Runs of the machine, and of a gatekeeper as it runs.
use Rattle.std.specs.Prelude.{◌≡◌, ◌≤◌, ◌++◌, List, [], ◌∷◌, length, map}
use Rattle.std.specs.List.{zip}
use Rattle.admission.specs.Calls.{in_use}
use Rattle.pools.specs.Account.{Account}
use Rattle.zone_events.specs.declared.change.Change.{Change}
use Rattle.zone_events.specs.declared.change.Change.TheVariants as change
use Rattle.zone_events.specs.declared.change.PoolChange.{PoolChange}
use Rattle.zone_events.specs.declared.event.Event.{Event}
use Rattle.zone_events.specs.declared.outcome.Outcome.{Outcome}
use Rattle.zone_tables.specs.Pools.{figures_at}
use Rattle.zone_tables.specs.Soundness.{IsLentTo}
use Rattle.ras_machine.specs.Replacing.{Replaces}
use Rattle.ras_machine.specs.State.{State}
use Rattle.ras_core.specs.Running.{Running}
use Rattle.ras_core.specs.Tallies.{tallies_after, tallies_after_replacing}
use Rattle.ras_machine.specs.Soundness.{Sound}
use Rattle.ras_machine.specs.Machine.{course}
use Rattle.ras_machine.specs.Steps.{HasFewOctets, Step, choices_of}

-- one step, of an event or of a pool that takes the place of another one
abbrev pub ChangeStep : State → Change → Outcome → State → Type 0
ChangeStep s (change.Event event) outcome after = Step s event outcome after
ChangeStep s (change.PoolChange replacement) outcome after = Replaces s replacement outcome after

-- step after step, over entries of a change with its outcome
abbrev pub Run : State → List (Change × Outcome) → State → Type 0
Run s [] after = after ≡ s
Run s (entry ∷ entries) after =
    (mid : State) × ChangeStep s entry.0 entry.1 mid × Run mid entries after

-- One step of a gatekeeper as it runs: the machine makes it; the pools were asked, and made their
-- turn, as often as the machine calls for, and the pool that was asked gave the outcome's answer;
-- what is sent has at most 20,000 octets; and the state after it is sound.
pub record RunningStep (old : Running) (event : Event) (outcome : Outcome)
    (new : Running) : Type 0 where
  pub step : Step old.state event outcome new.state
  pub tallies : new.tallies
      ≡ tallies_after old.tallies (course old.state event (choices_of outcome)) outcome.answer
  pub few : HasFewOctets outcome.output
  pub sound : Sound new.state

-- One step in which a fresh pool takes the place of another one: the machine makes it; the fresh
-- pool, which was seen as this account, was asked for what the other one had lent; no other pool
-- was called; and the state after it is sound.
pub record RunningReplacement (old : Running) (replacement : PoolChange) (outcome : Outcome)
    (new : Running) : Type 0 where
  pub step : Replaces old.state replacement outcome new.state
  pub fresh : Account
  pub offered : replacement.offered ≡ fresh.figures
  pub tallies : new.tallies ≡ tallies_after_replacing old.tallies replacement.pool fresh
      (figures_at old.state.tables.pools replacement.pool).lent
  pub sound : Sound new.state

-- one step of either kind
abbrev pub RunningChange : Running → Change → Outcome → Running → Type 0
RunningChange old (change.Event event) outcome new = RunningStep old event outcome new
RunningChange old (change.PoolChange replacement) outcome new =
    RunningReplacement old replacement outcome new

-- such steps, one after the other
abbrev pub RunningRun : Running → List (Change × Outcome) → Running → Type 0
RunningRun old [] new = new ≡ old
RunningRun old (entry ∷ entries) new =
    (mid : Running) × RunningChange old entry.0 entry.1 mid × RunningRun mid entries new

-- this holds of each state that such a run comes to
abbrev pub EachState : (P : State → Type 0) (old : Running) (entries : List (Change × Outcome))
    (new : Running) → RunningRun old entries new → Type 0
EachState P old [] new run = Unit {0}
EachState P old (entry ∷ entries) new run = P run.0.state × EachState P run.0 entries new run.2

-- bandwidth in use is within the zone's limit, and each pool has lent what its calls use
pub record IsWithinLimit (s : State) : Type 0 where
  pub limit : in_use s.tables.calls ≤ s.tables.config.limit
  pub lent : IsLentTo s.tables.pools s.tables.calls

-- What was added to the outcomes is one outcome for each event, and with the events it is a run of
-- the machine, which the gatekeeper made step by step.
pub record RunsOn (old : Running) (events : List Event) (before now : List Outcome) (new : Running)
    : Type 0 where
  pub made : List Outcome
  pub added : now ≡ before ++ made
  pub each : length made ≡ length events
  pub run : Run old.state (zip (map change.Event events) made) new.state
  pub steps : RunningRun old (zip (map change.Event events) made) new
