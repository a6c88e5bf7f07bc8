use Rattle.std.proofs.Common.{sym, subst}
use Rattle.std.specs.FinMap as fin
use Rattle.aliases.specs.Held.{Held}
use Rattle.registrations.specs.Registry.{Live}
use Rattle.registrations.specs.Agreement.{Agree}
use Rattle.registrations.proofs.Agreement.{Agree-empty}
use Rattle.zone_tables.proofs.Agreeing.{IsSoundRoll-stored}
use Rattle.zone_tables.proofs.endpoints.Endpoints.new.Goals as goal

pub invariant_of-result : goal.invariant_of-result
invariant_of-result c =
    record {
      agree = subst (λ (l : Live). Agree l c.new.result.held) (sym c.with_times.ensures.live)
          (subst (λ (h : Held). Agree fin.empty h) (sym c.new.ensures) Agree-empty);
      sound = c.with_times.ensures.sound;
    }

pub returns-clause-sound : goal.returns-clause-sound
returns-clause-sound c = IsSoundRoll-stored _ _ (invariant_of-result c)
