-- A fresh pool that is handed in for a pool of a gatekeeper, and what comes back.
use Rattle.std.specs.Prelude.{◌≡◌, ◌==◌, ℕ, length, nat_lt, if◌then◌else◌, Option, Some, None}
use Rattle.pools.specs.Account.{Account, is_idle}
use Rattle.pools.specs.Replacing.{FellShort}
use Rattle.pools.specs.declared.fault.ReplaceFault.{ReplaceFault}
use Rattle.pools.specs.declared.fault.ReplaceFault.TheVariants.{Closed, NoPool, NotIdle, NotLent}
use Rattle.pools.specs.declared.fault.ReplaceFault.TheVariants.{Memory}
use Rattle.zone_events.specs.declared.change.PoolChange.{PoolChange}
use Rattle.zone_tables.specs.Pools.{figures_at}
use Rattle.ras_machine.specs.Machine.{most_steps}
use Rattle.ras_machine.specs.State.{State}
use Rattle.ras_core.specs.Running.{Running}
use Rattle.ras_core.specs.Tallies.{tally_at, without_loans}

-- the change that it is, if the fresh pool, seen as this account, takes the place of this pool
abbrev pub change_by : ℕ → Account → ℕ → PoolChange
change_by pool fresh moment =
    record { pool = pool; offered = fresh.figures; moment = moment }

-- why the fresh pool isn't even asked to take over the loans
abbrev pub fault_unasked : State → ℕ → Account → Option ReplaceFault
fault_unasked s pool fresh =
    if s.steps == most_steps then Some Closed else
    if nat_lt pool (length s.tables.pools) then
    if is_idle fresh then None else Some NotIdle
    else Some NoPool

-- Why the fresh pool doesn't take the place of this pool; `back` is its account as it comes back.
-- If it was asked, it didn't lend all that this pool has lent.
abbrev pub IsRefusal : State → ℕ → Account → Account → ReplaceFault → Type 0
IsRefusal s pool fresh back NotLent =
    (fault_unasked s pool fresh ≡ None)
    × FellShort fresh (figures_at s.tables.pools pool).lent back
IsRefusal s pool fresh back other = fault_unasked s pool fresh ≡ Some other

-- The same of whoever notes the step: the memory for that is asked for once the fresh pool is found
-- to be idle, and before it is asked.
abbrev pub IsRefusalOrMemory : State → ℕ → Account → Account → ReplaceFault → Type 0
IsRefusalOrMemory s pool fresh back Memory = fault_unasked s pool fresh ≡ None
IsRefusalOrMemory s pool fresh back other = IsRefusal s pool fresh back other

-- The old pool as it comes back, seen as this account: with its limit, its counts and its last
-- request, and with nothing lent.
pub record IsOldPool (old : Running) (pool : ℕ) (back : Account) : Type 0 where
  pub figures : back.figures ≡ without_loans (figures_at old.state.tables.pools pool)
  pub last : back.last ≡ (tally_at old.tallies pool).last
