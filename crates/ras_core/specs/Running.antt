-- A gatekeeper as it runs.
use Rattle.std.specs.Prelude.{List}
use Rattle.ras_machine.specs.State.{State}
use Rattle.ras_core.specs.Tallies.{Tally}

-- the state of its machine, and beside it the tally of each pool
pub record Running : Type 0 where
  pub state : State
  pub tallies : List Tally
