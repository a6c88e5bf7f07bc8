use Rattle.std.proofs.Common.{sym, subst}
use Rattle.std.specs.FinMap as fin
use Rattle.aliases.specs.Held.{Held}
use Rattle.registrations.specs.Registry.{Live}
use Rattle.registrations.specs.Agreement.{Agree}
use Rattle.registrations.proofs.Agreement.{Agree-remove}
use Rattle.zone_tables.proofs.Agreeing.{IsSoundRoll-stored}
use Rattle.zone_tables.proofs.endpoints.Endpoints.remove.Goals as goal

pub invariant_of-self : goal.invariant_of-self
invariant_of-self c =
    let i = c.self.inside in
    let id = c.args.id.now in
    record {
      agree = subst (λ (l : Live). Agree l c.drop_aliases.new.aliases.held)
          (sym c.remove.ensures.removed.rows)
          (subst (λ (h : Held). Agree (fin.remove i.registrations.live id) h)
          (sym c.drop_aliases.ensures.rows)
          (Agree-remove i.registrations.live i.aliases.held id c.self.invariant.agree));
      sound = c.remove.ensures.removed.sound;
    }

pub returns-clause-sound : goal.returns-clause-sound
returns-clause-sound c = IsSoundRoll-stored _ _ (invariant_of-self c)
