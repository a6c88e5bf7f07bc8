-- The legs of a call: a second one, and those that are left.
use Rattle.std.proofs.Common.{◌≡◌, ◌≢◌, ◌<◌, ◌^◌, ◌↔◌, ℕ, zero, suc, Bool, true, false, ◌||◌, List}
use Rattle.std.proofs.Common.{[], ◌∷◌, ◌++◌, length, not, nat_eq, refl, sym, ◌∙◌, ap, cond, Some}
use Rattle.std.proofs.Common.{None, arith, rules}
use Rattle.std.specs.Prelude.{slice_get, IsTrue}
use Rattle.std.specs.Cmp.Lexicographic.{pointwise}
use Rattle.std.proofs.lemmas.List.{length-append}
use Rattle.std.proofs.lemmas.List.Filters.{length-filter_both}
use Rattle.keyed.specs.Places.{row_in}
use Rattle.keyed.proofs.Decide.{some_none, same_some, by_place}
use Rattle.keyed.proofs.Places.{AreApart-put}
use Rattle.keyed.proofs.Rows.{Changed-push, AreApart-filter}
use Rattle.ras_module.specs.Same.{texts_decide}
use Rattle.admission.specs.declared.call.Call.{Call}
use Rattle.admission.specs.declared.leg.Leg.{Leg}
use Rattle.admission.specs.Calls.{IsCall, new_call, with_leg, with_units}
use Rattle.admission.specs.Legs.{AreLegs, endpoint_of, leg_of, without_leg, has_other}
use Rattle.admission.specs.inside.Stored.{with_legs_but}

pub AreLegs-one : (leg : Leg) → AreLegs (leg ∷ [])
AreLegs-one leg = record {
  some = omega arith;
  few = omega arith;
  apart = record { apart = only };
} where
  only : (i j : ℕ) (r s : Leg) → slice_get (leg ∷ []) i ≡ Some r → slice_get (leg ∷ []) j ≡ Some s
      → r.endpoint ≡ s.endpoint → i ≡ j
  only zero zero r s p q e = refl
  only zero (suc j) r s p q e = some_none (sym q)
  only (suc i) j r s p q e = some_none (sym p)

-- an endpoint without a leg has none at any place
pub no_leg : (legs : List Leg) (endpoint : List ℕ) → leg_of legs endpoint ≡ None → (j : ℕ) (s : Leg)
    → row_in legs j ≡ Some s → s.endpoint ≢ endpoint
no_leg [] endpoint none j s there is = some_none (sym there)
no_leg (x ∷ legs) endpoint none j s there is =
    cases (no_leg legs endpoint) (pointwise nat_eq x.endpoint endpoint) refl none j s there is where
      cases : (leg_of legs endpoint ≡ None → (j : ℕ) (s : Leg) → row_in legs j ≡ Some s
          → s.endpoint ≢ endpoint)
          → (b : Bool) → pointwise nat_eq x.endpoint endpoint ≡ b
          → cond b (Some x) (leg_of legs endpoint) ≡ None
          → (j : ℕ) (s : Leg) → row_in (x ∷ legs) j ≡ Some s → s.endpoint ≢ endpoint
      cases rest true is e = some_none e
      cases rest false is e = each (rest e) where
        each : ((j : ℕ) (s : Leg) → row_in legs j ≡ Some s → s.endpoint ≢ endpoint)
            → (j : ℕ) (s : Leg)
            → row_in (x ∷ legs) j ≡ Some s → s.endpoint ≢ endpoint
        each rest zero s there same =
            cc (
              is,
              (texts_decide x.endpoint endpoint).1
                  (ap endpoint_of (same_some x s there) ∙ same),
            )
        each rest (suc j) s there same = rest j s there same

pub AreLegs-push : (legs : List Leg) (leg : Leg) → AreLegs legs → length legs ≡ 1
    → leg_of legs leg.endpoint ≡ None → AreLegs (legs ++ leg ∷ [])
AreLegs-push legs leg h one none = record {
  some = omega (arith, length-append legs (leg ∷ []));
  few = omega (arith, length-append legs (leg ∷ []), one);
  apart =
      AreApart-put endpoint_of (row_in legs) (row_in (legs ++ leg ∷ [])) (length legs) leg h.apart
      (no_leg legs leg.endpoint none) (Changed-push legs leg);
}

pub other_left : (legs : List Leg) (endpoint : List ℕ) → has_other legs endpoint ≡ true
    → (leg : Leg) × (rest : List Leg) × (without_leg legs endpoint ≡ leg ∷ rest)
other_left [] endpoint h = absurd (cc h)
other_left (leg ∷ legs) endpoint h =
    one (not (pointwise nat_eq leg.endpoint endpoint)) h (other_left legs endpoint) where
      one : (b : Bool) → (b || has_other legs endpoint) ≡ true → (has_other legs endpoint ≡ true
          → (first : Leg) × (rest : List Leg) × (without_leg legs endpoint ≡ first ∷ rest))
          → (first : Leg) × (rest : List Leg)
          × (cond b (leg ∷ without_leg legs endpoint) (without_leg legs endpoint) ≡ first ∷ rest)
      one true h rest = (leg, without_leg legs endpoint, refl)
      one false h rest = rest h

pub none_left : (legs : List Leg) (endpoint : List ℕ) → has_other legs endpoint ≡ false
    → without_leg legs endpoint ≡ []
none_left [] endpoint h = refl
none_left (leg ∷ legs) endpoint h =
    one (not (pointwise nat_eq leg.endpoint endpoint)) h (none_left legs endpoint) where
      one : (b : Bool) → (b || has_other legs endpoint) ≡ false
          → (has_other legs endpoint ≡ false → without_leg legs endpoint ≡ [])
          → cond b (leg ∷ without_leg legs endpoint) (without_leg legs endpoint) ≡ []
      one true h rest = absurd (cc h)
      one false h rest = rest h

pub AreLegs-remove : (legs : List Leg) (endpoint : List ℕ) → AreLegs legs
    → has_other legs endpoint ≡ true → AreLegs (without_leg legs endpoint)
AreLegs-remove legs endpoint h other =
    let left = other_left legs endpoint other in
    let test = λ (leg : Leg). not (pointwise nat_eq leg.endpoint endpoint) in
    record {
      some = omega (arith, ap length left.2);
      few =
          omega (arith, length-filter_both test (λ leg. not (test leg)) (λ leg. refl) legs, h.few);
      apart = AreApart-filter endpoint_of test legs h.apart;
    }

pub one_leg : (legs : List Leg) (b : Bool) → AreLegs legs → IsTrue b ↔ (length legs ≡ 2)
    → b ≡ false → length legs ≡ 1
one_leg legs b h two is = by_place (length legs) 2 (length legs ≡ 1)
    (λ e. absurd (let yes : IsTrue b = two.1 e in search (rules, yes, is)))
    (λ differ. omega (arith, h.some, h.few, differ))

-- what a change leaves of a call is a call
pub IsCall-join : (call : Call) (leg : Leg) → length call.legs ≡ 1
    → leg_of call.legs leg.endpoint ≡ None → IsCall call → IsCall (with_leg leg call)
IsCall-join call leg one none h = record {
  legs = AreLegs-push call.legs leg h.legs one none;
  units = h.units;
}

pub IsCall-leave : (call : Call) (endpoint : List ℕ) → has_other call.legs endpoint ≡ true
    → IsCall call → IsCall (with_legs_but endpoint call)
IsCall-leave call endpoint other h = record {
  legs = AreLegs-remove call.legs endpoint h.legs other;
  units = h.units;
}

pub IsCall-set_units : (call : Call) (units : ℕ) → units < 2 ^ 32 → IsCall call
    → IsCall (with_units units call)
IsCall-set_units call units fits h = record { legs = h.legs; units = fits }

pub IsCall-open : (pool units : ℕ) (leg : Leg) → units < 2 ^ 32 → IsCall (new_call pool units leg)
IsCall-open pool units leg fits = record { legs = AreLegs-one leg; units = fits }
