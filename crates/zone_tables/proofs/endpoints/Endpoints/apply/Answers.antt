use Rattle.std.proofs.Common.{subst}
use Rattle.zone_tables.specs.Parts.{IsSoundRoll, Roster}
use Rattle.zone_tables.proofs.Agreeing.{IsSoundRoll-stored}
use Rattle.zone_tables.proofs.endpoints.Endpoints.apply.Goals as goal

pub returns-clause-sound : goal.returns-clause-sound
returns-clause-sound c =
    subst (λ (e : Roster). IsSoundRoll e.roll) c.self.view_is (IsSoundRoll-stored _ _
    c.self.invariant)
