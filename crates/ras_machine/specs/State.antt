-- What a gatekeeper has: its tables, and what it notes beside.
use Rattle.std.specs.Prelude.{ℕ, List}
use Rattle.std.specs.FinMap.{empty}
use Rattle.kept_replies.specs.Kept.{KeptReplies}
use Rattle.pools.specs.declared.interface.Figures.{Figures}
use Rattle.zone_config.specs.declared.config.ConfigParts.{ConfigParts}
use Rattle.zone_tables.specs.Tables.{Tables, empty_tables}

-- The tables, the replies that are kept, the clock in milliseconds, the number of the next
-- interrogation, the moment of the next turn of the pools, and how many steps were made.
pub record State : Type 0 where
  pub tables : Tables
  pub kept : KeptReplies
  pub clock : ℕ
  pub interrogation_number : ℕ
  pub next_pool_turn : ℕ
  pub steps : ℕ

-- the state before the first step
abbrev pub opening : ConfigParts → List Figures → State
opening config pools = record {
  tables = empty_tables config pools;
  kept = empty;
  clock = 0;
  interrogation_number = 1;
  next_pool_turn = config.pool_turn;
  steps = 0;
}
