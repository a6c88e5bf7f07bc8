use Rattle.std.proofs.Common.{subst, sym, List, ap, ◌∙◌, length}
use Rattle.admission.specs.declared.leg.Leg.{Leg}
use Rattle.admission.specs.Legs.{AreLegs, leg_of}
use Rattle.admission.proofs.LegLemmas.{AreLegs-push}
use Rattle.admission.proofs.legs.Legs.push.Goals as goal

pub invariant_of-self : goal.invariant_of-self
invariant_of-self c =
    subst AreLegs (sym c.push.ensures.items)
    (AreLegs-push c.self.inside.items.items c.args.leg c.self.invariant
    (ap length c.self.view_is ∙ c.requires.one)
    (ap (λ (legs : List Leg). leg_of legs c.args.leg.endpoint) c.self.view_is ∙ c.requires.new))
