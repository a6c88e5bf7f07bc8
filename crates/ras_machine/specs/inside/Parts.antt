-- A state, by its parts.
use Rattle.std.specs.Prelude.{ℕ, ◌≡◌, ◌<◌, ◌≤◌, ◌^◌}
use Rattle.kept_replies.specs.Kept.{KeptReplies, KeptTable, IsConsistent}
use Rattle.zone_tables.specs.Tables.{Tables}
use Rattle.zone_tables.specs.Soundness.{SoundTables}
use Rattle.ras_machine.specs.State.{State}
use Rattle.ras_machine.specs.Machine.{most_steps}

-- Beside its tables the replies that are kept, the clock, the number of the next interrogation, the
-- moment of the next turn of the pools, and how many steps were made.
abbrev pub state_of : Tables → KeptReplies → ℕ → ℕ → ℕ → ℕ → State
state_of tables kept clock interrogation_number next_pool_turn steps = record {
  tables = tables;
  kept = kept;
  clock = clock;
  interrogation_number = interrogation_number;
  next_pool_turn = next_pool_turn;
  steps = steps;
}

-- what its parts keep by their types, and how they fit together; `made` steps were made
pub record AreSoundParts (z : Tables) (replies : KeptTable) (moment number made : ℕ) : Type 0 where
  pub tables : SoundTables z
  pub kept : IsConsistent replies
  pub most : replies.most ≡ z.config.kept
  pub clock : moment < 2 ^ 53
  pub least_number : 1 ≤ number
  pub most_number : number ≤ 65535
  pub steps : made ≤ most_steps
