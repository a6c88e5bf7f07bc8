-- The derived test of equality of calls decides whether they are equal.
use Rattle.std.proofs.Common.{◌≡◌, List, refl, rules}
use Rattle.std.specs.Bool.{Decides}
use Rattle.std.specs.Cmp.Lexicographic.{pointwise}
use Rattle.std.proofs.lemmas.Slice.Eq.{slice_eq-Decides}
use Rattle.std.proofs.lemmas.Bool.Decides.{Decides-eqb}
use Rattle.ras_module.specs.Same.{texts_decide}
use Rattle.admission.specs.declared.call.Call.{Call}
use Rattle.admission.specs.declared.leg.Leg.{Leg}
use Rattle.admission.specs.Legs.{same_leg}
use Rattle.admission.specs.contracts.call.CallPartialEq.TheImpl as call_eq

leg_decides : (a b : Leg) → Decides (same_leg a b) (a ≡ b)
leg_decides a b = search (rules, texts_decide, Decides-eqb)

legs_decide : (a b : List Leg) → Decides (pointwise same_leg a b) (a ≡ b)
legs_decide a b = slice_eq-Decides leg_decides a b (pointwise same_leg a b) refl

pub calls_decide : (a b : Call) → Decides ((call_eq.ghosts).eq a b) (a ≡ b)
calls_decide a b = search (rules, legs_decide)
