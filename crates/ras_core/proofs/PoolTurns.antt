-- The turns of the pools in the tallies.
use Rattle.std.proofs.Common.{◌≡◌, List, refl}
use Rattle.std.specs.Prelude.{Option}
use Rattle.pools.specs.declared.interface.Lend.{Lend}
use Rattle.zone_events.specs.declared.due_item.DueItem.TheVariants as item
use Rattle.ras_machine.specs.Machine.{Course, Ignoring, Hearing, Repeating, Serving, Doing, Idle}
use Rattle.ras_machine.specs.Steps.{ask_in}
use Rattle.ras_core.specs.Tallies.{Tally, tallies_after, tallies_after_ask}
use Rattle.ras_core.specs.inside.PoolTurns.{is_pool_turn, tallies_turned}

-- what the asked pool, and then the turn, make of the tallies
pub turned : (tallies : List Tally) (c : Course) (answer : Option Lend)
    → tallies_turned (tallies_after_ask tallies (ask_in c) answer) (is_pool_turn c)
    ≡ tallies_after tallies c answer
turned tallies (Ignoring cause) answer = refl
turned tallies (Hearing endpoint) answer = refl
turned tallies (Repeating datagram) answer = refl
turned tallies (Serving task) answer = refl
turned tallies (Doing (item.RegistrationOver id)) answer = refl
turned tallies (Doing (item.Interrogate id)) answer = refl
turned tallies (Doing (item.Silent id)) answer = refl
turned tallies (Doing (item.Retry born)) answer = refl
turned tallies (Doing (item.KeptOver born)) answer = refl
turned tallies (Doing item.PoolTurn) answer = refl
turned tallies Idle answer = refl
