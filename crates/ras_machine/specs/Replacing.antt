-- A fresh pool takes the place of another one.
use Rattle.std.specs.Prelude.{◌≡◌, ◌<◌, ◌+◌, max, None}
use Rattle.zone_events.specs.declared.change.PoolChange.{PoolChange}
use Rattle.zone_events.specs.declared.outcome.Note.TheVariants.{Replaced}
use Rattle.zone_events.specs.declared.outcome.Outcome.{Outcome}
use Rattle.zone_events.specs.Events.{noted_outcome}
use Rattle.zone_tables.specs.Pools.{MayReplace, pools_after_replacing}
use Rattle.ras_machine.specs.Machine.{most_steps}
use Rattle.ras_machine.specs.State.{State}

-- The state after it: the figures of the fresh pool, with the loans of the one before, stand in its
-- place. The clock stands at the moment of the change, unless it stands later, and a step more is
-- made. All else stays.
abbrev pub replaced : State → PoolChange → State
replaced s change = record s {
  tables = record s.tables {
    pools = pools_after_replacing s.tables.pools change.pool change.offered;
  };
  clock = max s.clock change.moment;
  steps = s.steps + 1;
}

-- From s, a fresh pool that may do so takes the place of another one: the outcome tells which, and
-- the state is left so.
pub record Replaces (s : State) (change : PoolChange) (outcome : Outcome) (after : State)
    : Type 0 where
  pub few : s.steps < most_steps
  pub may : MayReplace s.tables.pools change.pool change.offered
  pub told : outcome ≡ noted_outcome (Replaced change.pool) None
  pub makes : after ≡ replaced s change
