-- What a run of a script returns, and what it writes.
use Rattle.std.specs.Prelude.{ℕ, ◌≡◌, ◌<◌, ◌==◌, ◌&&◌, Bool, IsTrue, zero, suc, List, length}
use Rattle.std.specs.Prelude.{map, take}
use Rattle.std.specs.Prelude.{Option, is_none, Result, Ok, Err}
use Rattle.std.specs.Io.KnownBytes.{Keeps, Appends}
use Rattle.pools.specs.Account.{Account}
use Rattle.pools.specs.Members.{new_member}
use Rattle.pools.specs.Accounts.{pool_fault}
use Rattle.zone_config.specs.declared.config.ConfigParts.{ConfigParts}
use Rattle.ras_machine.specs.State.{opening}
use Rattle.ras_core.specs.Running.{Running}
use Rattle.ras_core.specs.Tallies.{tallies_of}
use Rattle.zone_tables.specs.Pools.{figures_of}
use Rattle.ras_machine.specs.Machine.{most_steps}
use Rattle.ras_core.specs.Runs.{Run, RunningRun}
use Rattle.script.specs.declared.fault.RunFault.{RunFault}
use Rattle.script.specs.declared.fault.RunFault.TheVariants.{Memory, Closed, Stream, WrongPools}
use Rattle.script.specs.declared.read.Script.{Script}
use Rattle.script.specs.Deeds.{Deed, DeedStep, DeedsRun, deeds_of, steps_of}
use Rattle.script.specs.Events.{fresh_pools}
use Rattle.script.specs.Prints.{Upshot, upshot_line, upshot_lines}

-- the pools are as many as the script's, and they make a set: each of them is idle
abbrev pub are_pools_of : ConfigParts → List Account → Bool
are_pools_of config pools =
    is_none (pool_fault pools) && length pools == length config.networks

-- the zone of a script before its first event, with these pools, as a set of them that was just
-- made
abbrev pub start_of : ConfigParts → List Account → Running
start_of config pools = record {
  state = opening config (figures_of pools);
  tallies = tallies_of (map new_member pools);
}

-- the boxes are those of a script: its pools, and as many fresh pools as it names
abbrev pub are_boxes_of : Script → List Account → List Account → Bool
are_boxes_of script pools fresh =
    are_pools_of script.config pools && length fresh == length (fresh_pools script.events)

-- These deeds were done from this zone to the one that is there after them: those that were steps
-- are a run of the machine, which the gatekeeper made step by step. What was written is just a line
-- for each deed, of its outcome or of its refusal.
pub record RunsAndPrints (start : Running) (deeds : List Deed) (after : Running)
    (old new : Option (List ℕ)) : Type 0 where
  pub upshots : List Upshot
  pub run : DeedsRun start deeds upshots after
  pub steps : RunningRun start (steps_of deeds upshots) after
  pub states : Run start.state (steps_of deeds upshots) after.state
  pub lines : Appends old new (upshot_lines upshots)

-- the deeds before the n-th were done and printed, and the zone stands after them
abbrev pub StopsAt : ℕ → Running → List Deed → Running → Option (List ℕ) → Option (List ℕ)
    → Type 0
StopsAt zero start deeds after old new = ⊥
StopsAt (suc before) start deeds after old new =
    (before < length deeds) × RunsAndPrints start (take before deeds) after old new

-- All deeds were done and printed; or those before the one that is named, which found no memory, or
-- found the zone closed. Nothing was written if there was no memory for the zone itself, nor if the
-- boxes are not the script's.
abbrev pub IsRunOf : Running → List Deed → Option (List ℕ) → Option (List ℕ)
    → Result Unit RunFault → Type 0
IsRunOf start deeds old new (Ok done) =
    (after : Running) × RunsAndPrints start deeds after old new
IsRunOf start deeds old new (Err (Memory zero)) = Keeps old new
IsRunOf start deeds old new (Err (Memory (suc before))) =
    (after : Running) × StopsAt (suc before) start deeds after old new
    × (after.state.steps ≡ most_steps → ⊥)
IsRunOf start deeds old new (Err (Closed event)) =
    (after : Running) × StopsAt event start deeds after old new
    × (after.state.steps ≡ most_steps)
IsRunOf start deeds old new (Err Stream) = Unit {0}
IsRunOf start deeds old new (Err WrongPools) = Keeps old new

-- One deed, the one with this number: it was done, and its line was written. Or it found no memory,
-- or found the zone closed, and nothing was done or written.
abbrev pub IsDeedAnswer : ℕ → Running → Running → Deed → Option (List ℕ) → Option (List ℕ)
    → Result Unit RunFault → Type 0
IsDeedAnswer number start after deed old new (Ok done) =
    (upshot : Upshot) × DeedStep start deed upshot after
    × Appends old new (upshot_line number upshot)
IsDeedAnswer number start after deed old new (Err (Memory event)) =
    (event ≡ number) × (after ≡ start) × (start.state.steps ≡ most_steps → ⊥) × (new ≡ old)
IsDeedAnswer number start after deed old new (Err (Closed event)) =
    (event ≡ number) × (after ≡ start) × (start.state.steps ≡ most_steps) × (new ≡ old)
IsDeedAnswer number start after deed old new (Err Stream) = Unit {0}
IsDeedAnswer number start after deed old new (Err WrongPools) = ⊥

-- what a run of a script with these pools and these fresh pools returns
abbrev pub IsRunAnswer : Script → List Account → List Account → Option (List ℕ)
    → Option (List ℕ) → Result Unit RunFault → Type 0
IsRunAnswer script pools fresh old new answer =
    IsRunOf (start_of script.config pools) (deeds_of script.events fresh) old new answer

-- Behind a run that came to its end, or stopped at an event, the writer is flushed.
abbrev pub IsFlushedAfter : Result Unit RunFault → Bool → Type 0
IsFlushedAfter (Ok done) flushed = IsTrue flushed
IsFlushedAfter (Err (Memory zero)) flushed = Unit {0}
IsFlushedAfter (Err (Memory (suc before))) flushed = IsTrue flushed
IsFlushedAfter (Err (Closed event)) flushed = IsTrue flushed
IsFlushedAfter (Err Stream) flushed = Unit {0}
IsFlushedAfter (Err WrongPools) flushed = Unit {0}
