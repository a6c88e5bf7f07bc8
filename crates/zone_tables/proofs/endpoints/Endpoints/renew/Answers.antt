use Rattle.std.proofs.Common.{refl, sym, subst}
use Rattle.registrations.specs.Registry.{Live, with_deadline}
use Rattle.registrations.specs.Agreement.{Agree}
use Rattle.registrations.proofs.Agreement.{Agree-update}
use Rattle.zone_tables.proofs.endpoints.Endpoints.renew.Goals as goal

pub invariant_of-self : goal.invariant_of-self
invariant_of-self c =
    let i = c.self.inside in
    record {
      agree = subst (λ (l : Live). Agree l i.aliases.held) (sym c.renew.ensures.rows)
          (Agree-update i.registrations.live i.aliases.held c.args.id.now
          (with_deadline c.args.deadline) c.self.invariant.agree (λ r. refl) (λ r. refl));
      sound = c.renew.ensures.sound;
    }
