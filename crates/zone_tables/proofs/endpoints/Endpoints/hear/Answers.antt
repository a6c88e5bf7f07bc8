use Rattle.std.proofs.Common.{refl, sym, subst}
use Rattle.registrations.specs.Registry.{Live, after_hear}
use Rattle.registrations.specs.Agreement.{Agree}
use Rattle.registrations.proofs.Agreement.{Agree-update}
use Rattle.zone_tables.proofs.Agreeing.{IsSoundRoll-stored}
use Rattle.zone_tables.proofs.endpoints.Endpoints.hear.Goals as goal

pub invariant_of-self : goal.invariant_of-self
invariant_of-self c =
    let i = c.self.inside in
    record {
      agree = subst (λ (l : Live). Agree l i.aliases.held) (sym c.hear.ensures.rows)
          (Agree-update i.registrations.live i.aliases.held c.args.id.now
          (after_hear c.milliseconds.result) c.self.invariant.agree (λ r. refl) (λ r. refl));
      sound = c.hear.ensures.sound;
    }

pub returns-clause-sound : goal.returns-clause-sound
returns-clause-sound c = IsSoundRoll-stored _ _ (invariant_of-self c)
