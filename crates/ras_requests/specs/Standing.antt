-- How an endpoint stands to the call that its request names.
use Rattle.std.specs.Prelude.{ℕ, List, Option, None, Some}
use Rattle.admission.specs.declared.call.Call.{Call}
use Rattle.admission.specs.declared.leg.Leg.{Leg}
use Rattle.admission.specs.Legs.{leg_of}

-- there is no such call; or the endpoint has no leg in it; or it has this leg
pub data Standing : Type 0 where
  NoCall : Standing
  NoLeg : Call → Standing
  HasLeg : Call → Leg → Standing

abbrev pub standing_in : Call → Option Leg → Standing
standing_in call None = NoLeg call
standing_in call (Some leg) = HasLeg call leg

abbrev pub standing : Option Call → List ℕ → Standing
standing None endpoint = NoCall
standing (Some call) endpoint = standing_in call (leg_of call.legs endpoint)
