-- What the check of a recorded step returns.
use Rattle.std.specs.Prelude.{◌≡◌, Bool, true, false}
use Rattle.zone_events.specs.declared.change.Change.{Change}
use Rattle.zone_events.specs.declared.outcome.Outcome.{Outcome}
use Rattle.ras_machine.specs.State.{State}
use Rattle.ras_core.specs.Runs.{ChangeStep}

-- no step of the machine from this state is made of this, with this outcome
abbrev pub NoStep : State → Change → Outcome → Type 0
NoStep old what outcome = (after : State) → ChangeStep old what outcome after → ⊥

-- the machine has such a step and made it, or has none
abbrev pub Redoes : State → Change → Outcome → Bool → State → Type 0
Redoes old what outcome true new = ChangeStep old what outcome new
Redoes old what outcome false new = NoStep old what outcome

-- and if it has none, nothing changes
abbrev pub Accepts : State → Change → Outcome → Bool → State → Type 0
Accepts old what outcome true new = ChangeStep old what outcome new
Accepts old what outcome false new = NoStep old what outcome × (new ≡ old)
