-- What happens at a tick of the worker of the timers.
use Rattle.std.specs.Prelude.{◌≡◌, ℕ, Bool, false, true}
use Rattle.pools.specs.Account.{Account}
use Rattle.ras_machine.specs.State.{State}
use Rattle.udp_server.specs.declared.plan.Plan.{Plan}
use Rattle.udp_server.specs.LatestChapters.{Kept}
use Rattle.udp_server.specs.Orders.{AreCarriedOut, Ordering, ordering}
use Rattle.udp_server.specs.Ticks.{AreTurnsOfRound, IsTick, IsTurnOfRound, Recording}
use Rattle.udp_server.specs.Ticks.{goes_on_after_turns, is_more_due, is_more_due_after, recording}
use Rattle.udp_server.specs.Working.{Standing, goes_on_after}

-- Turns of a tick of which nothing is recorded, many each time that the lock is held. No chapter
-- changes.
pub record AreTurnsUnrecorded {C : Type 0} (opened : State) (tells : C → ℕ → C → Type 0)
    (goes_on : Bool) (old new : Recording) : Type 0 where
  pub tick : IsTick (AreTurnsOfRound opened tells 50) 20 is_more_due goes_on_after_turns goes_on
      old.worker new.worker
  pub same : new.chapters ≡ old.chapters

-- all turns of a tick: each recorded, or many each time that the lock is held
abbrev pub AreTurnsOfTick : {C : Type 0} → State → (C → ℕ → C → Type 0) → Plan → Bool → Bool
    → Recording → Recording → Type 0
AreTurnsOfTick opened tells plan true goes_on old new =
    IsTick (IsTurnOfRound opened tells plan) 1000 is_more_due_after goes_on_after goes_on old new
AreTurnsOfTick opened tells plan false goes_on old new =
    AreTurnsUnrecorded opened tells goes_on old new

-- At a tick the orders that are due are carried out, and the turns are made behind that, by a worker
-- who records them or doesn't.
pub record IsWholeTick {P C : Type 0} (opened : State) (account : P → Account)
    (tells : C → ℕ → C → Type 0) (plan : Plan) (is_recorded goes_on : Bool) (old new : Ordering P)
    (chapters chapters_then : Kept) : Type 0 where
  pub then : Standing
  pub orders : AreCarriedOut opened account tells old (ordering new.waiting new.boxes then)
  pub turns : AreTurnsOfTick opened tells plan is_recorded goes_on (recording then chapters)
      (recording new.worker chapters_then)
