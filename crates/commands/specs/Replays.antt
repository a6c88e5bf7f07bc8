-- What a replay returns, and the exit status of each fault.
use Rattle.std.specs.Prelude.{ℕ, ◌≡◌, List, map, Result, Ok, Err}
use Rattle.pools.specs.Account.{Account}
use Rattle.pools.specs.Specs.{account_of}
use Rattle.pools.specs.declared.pool_spec.PoolSpec.{PoolSpec}
use Rattle.script.specs.declared.fault.ScriptFault.TheVariants as script
use Rattle.script.specs.declared.fault.RunFault.{RunFault}
use Rattle.script.specs.declared.fault.RunFault.TheVariants as run
use Rattle.script.specs.declared.read.Script.{Script}
use Rattle.script.specs.Events.{fresh_pools}
use Rattle.script.specs.Reads.{ReadsScript}
use Rattle.script.specs.Runs.{IsRunAnswer, IsFlushedAfter}
use Rattle.script.specs.Streams.{InputState, OutputState}
use Rattle.commands.specs.declared.replaying.ReplayFault.{ReplayFault}
use Rattle.commands.specs.declared.replaying.ReplayFault.TheVariants.{Script as OfScript}
use Rattle.commands.specs.declared.replaying.ReplayFault.TheVariants.{Run as OfRun}

-- 1: the input is refused; 3: no memory; 4: a stream failed
abbrev pub status_of : ReplayFault → ℕ
status_of (OfScript script.TooLong) = 1
status_of (OfScript (script.BadLine line)) = 1
status_of (OfScript script.NoZone) = 1
status_of (OfScript script.NoDefaultPool) = 1
status_of (OfScript script.Stream) = 4
status_of (OfScript script.Memory) = 3
status_of (OfRun (run.Memory step)) = 3
status_of (OfRun (run.Closed step)) = 1
status_of (OfRun run.Stream) = 4
status_of (OfRun run.WrongPools) = 1

-- pools that are described, which were asked nothing yet
abbrev pub accounts_of : List PoolSpec → List Account
accounts_of specs = map account_of specs

-- What a run of a script over its pools, with the fresh pools that its events name, returns and
-- writes; what it wrote is flushed.
pub record RunsScript (script : Script) (old new : OutputState) (answer : Result Unit RunFault)
    : Type 0 where
  pub run : IsRunAnswer script (accounts_of script.pools) (accounts_of (fresh_pools script.events))
      old.contents new.contents answer
  pub flushed : IsFlushedAfter answer new.flushed

-- A script was read and run, with its pools; or it was read and not run to its end; or it was not
-- read, and the writer is as it was.
abbrev pub Replays : InputState → InputState → OutputState → OutputState → Result Unit ReplayFault
    → Type 0
Replays left left_now old new (Ok done) =
    (script : Script) × ReadsScript left left_now (Ok script) × RunsScript script old new (Ok done)
Replays left left_now old new (Err (OfRun fault)) =
    (script : Script) × ReadsScript left left_now (Ok script)
    × RunsScript script old new (Err fault)
Replays left left_now old new (Err (OfScript fault)) =
    ReadsScript left left_now (Err fault) × (new ≡ old)
