use Rattle.std.proofs.Common.{◌≡◌, rules, ap, sym, ◌∙◌, subst, not, nat_eq}
use Rattle.std.specs.Cmp.Lexicographic.{pointwise}
use Rattle.arrayvec.proofs.ArrayVecLemmas.{filter-from_retain}
use Rattle.admission.specs.declared.leg.Leg.{Leg}
use Rattle.admission.specs.Legs.{AreLegs, without_leg, has_other}
use Rattle.admission.proofs.LegLemmas.{AreLegs-remove}
use Rattle.admission.proofs.legs.Legs.remove.Goals as goal

left : (c : goal.After-retain)
    → c.retain.new.self.items ≡ without_leg c.self.inside.items.items c.args.endpoint.now
left c =
    filter-from_retain _ (λ (leg : Leg). not (pointwise nat_eq leg.endpoint c.args.endpoint.now)) _
    (λ x b f' y called. search rules) _ _ c.retain.ensures.filtered

pub invariant_of-self : goal.invariant_of-self
invariant_of-self c = subst AreLegs (sym (left c))
    (AreLegs-remove c.self.inside.items.items c.args.endpoint.now c.self.invariant
    (ap (λ legs. has_other legs c.args.endpoint.now) c.self.view_is ∙ search (rules, c.requires)))

pub returns : goal.returns
returns c = left c ∙ ap (λ legs. without_leg legs c.args.endpoint.now) c.self.view_is
