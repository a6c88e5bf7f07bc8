-- The turns of the pools.
use Rattle.std.specs.Prelude.{Bool, true, false, List, if◌then◌else◌}
use Rattle.zone_events.specs.declared.due_item.DueItem.TheVariants.{PoolTurn}
use Rattle.ras_machine.specs.Machine.{Course, Doing}
use Rattle.ras_core.specs.Tallies.{Tally, tallies_after_turn}

-- whether the pools make their turn
abbrev pub is_pool_turn : Course → Bool
is_pool_turn (Doing PoolTurn) = true
is_pool_turn other = false

-- the tallies after it, if it is made
abbrev pub tallies_turned : List Tally → Bool → List Tally
tallies_turned tallies turn = if turn then tallies_after_turn tallies else tallies
