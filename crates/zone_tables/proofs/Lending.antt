-- What pools have lent stays what their calls use, as calls open, change and end.
use Rattle.std.proofs.Common.{◌≡◌, ◌≢◌, ◌<◌, ◌≤◌, ◌+◌, ℕ, zero, Bool, true, false, List, length}
use Rattle.std.proofs.Common.{slice_set, nat_eq, refl, sym, ◌∙◌, ap, subst, arith, Some, None}
use Rattle.std.specs.Prelude.{if◌then◌else◌}
use Rattle.std.specs.FinMap as fin
use Rattle.std.proofs.lemmas.List.{length-set}
use Rattle.std.proofs.lemmas.Bool.Decides.{nat_tests}
use Rattle.keyed.specs.Maps.{update}
use Rattle.keyed.proofs.Decide.{by_place}
use Rattle.ras_module.specs.declared.call_key.CallKey.{CallKey}
use Rattle.admission.specs.declared.call.Call.{Call}
use Rattle.admission.specs.declared.leg.Leg.{Leg}
use Rattle.admission.specs.Calls.{OpenCalls, in_use_of, units_from, new_call, with_leg, with_units}
use Rattle.admission.specs.Calls.{after_leave, freed_by_leave}
use Rattle.admission.specs.Legs.{has_other}
use Rattle.admission.proofs.Leaving.{freed-other, freed-last}
use Rattle.admission.proofs.Soundness.{in_use_of-open, in_use_of-join, in_use_of-set_units}
use Rattle.admission.proofs.Soundness.{in_use_of-left, in_use_of-ended, total-part}
use Rattle.pools.specs.declared.interface.Figures.{Figures}
use Rattle.pools.specs.declared.interface.Lend.TheVariants.{Lent, Refused, Wait}
use Rattle.pools.specs.Account.{figures_after_answer}
use Rattle.zone_tables.specs.Pools.{figures_at, pools_after_return}
use Rattle.zone_tables.specs.Pools.{pools_after_end, figures_after_return}
use Rattle.zone_tables.specs.Soundness.{IsLentTo}
use Rattle.zone_tables.proofs.OnePool.{figures_here, figures_elsewhere}

-- units count for their own pool
same_pool : (p units : ℕ) → (if nat_eq p p then units else 0) ≡ units
same_pool p units =
    let same : nat_eq p p ≡ true = grind (arith, nat_tests) in
    ap (λ (b : Bool). if b then units else 0) same

other_pool : (pool p units : ℕ) → p ≢ pool → (if nat_eq pool p then units else 0) ≡ 0
other_pool pool p units differ =
    let other : nat_eq pool p ≡ false = grind (arith, nat_tests, differ) in
    ap (λ (b : Bool). if b then units else 0) other

zero_either : (b : Bool) → (if b then zero else zero) ≡ zero
zero_either true = refl
zero_either false = refl

-- one pool changes with its calls
IsLentTo-set : (pools : List Figures) (calls new : OpenCalls) (i : ℕ) (f : Figures)
    → IsLentTo pools calls → i < length pools → f.lent ≡ in_use_of new i
    → ((p : ℕ) → p ≢ i → in_use_of new p ≡ in_use_of calls p)
    → IsLentTo (slice_set pools i f) new
IsLentTo-set pools calls new i f lent below here others p p_below =
    by_place p i ((figures_at (slice_set pools i f) p).lent ≡ in_use_of new p)
    (λ same. ap (λ g. g.lent) (figures_here pools i f p same below)
    ∙ (here ∙ ap (in_use_of new) (sym same)))
    (λ differ. ap (λ g. g.lent) (figures_elsewhere pools i f p differ)
    ∙ (lent p (omega (arith, p_below, length-set pools i f)) ∙ sym (others p differ)))

-- only the calls change, and not what they have from any pool
pub IsLentTo-calls : (pools : List Figures) (calls new : OpenCalls) → IsLentTo pools calls
    → ((p : ℕ) → in_use_of new p ≡ in_use_of calls p) → IsLentTo pools new
IsLentTo-calls pools calls new lent same p below = lent p below ∙ sym (same p)

module _ (pools : List Figures) (calls : OpenCalls) (key : CallKey)
    (lent : IsLentTo pools calls) where
  pub lent-opened : (i units : ℕ) (leg : Leg) → fin.get calls key ≡ None → i < length pools
      → IsLentTo (slice_set pools i (figures_after_answer (figures_at pools i) (Lent units)))
      (fin.insert calls key (new_call i units leg))
  lent-opened i units leg absent below =
      IsLentTo-set pools calls (fin.insert calls key (new_call i units leg)) i
      (figures_after_answer (figures_at pools i) (Lent units)) lent below
      (omega (
        arith,
        lent i below,
        in_use_of-open calls key i i units leg absent,
        same_pool i units,
      ))
      (λ p differ. omega (
        arith,
        in_use_of-open calls key p i units leg absent,
        other_pool i p units differ,
      ))

  pub lent-opened_empty : (i : ℕ) (leg : Leg) → fin.get calls key ≡ None
      → IsLentTo pools (fin.insert calls key (new_call i 0 leg))
  lent-opened_empty i leg absent =
      IsLentTo-calls pools calls (fin.insert calls key (new_call i 0 leg)) lent
      (λ p. omega (arith, in_use_of-open calls key p i 0 leg absent, zero_either (nat_eq i p)))

  pub lent-joined : (call : Call) (leg : Leg) → fin.get calls key ≡ Some call
      → IsLentTo pools (update calls key (with_leg leg))
  lent-joined call leg there =
      IsLentTo-calls pools calls (update calls key (with_leg leg)) lent
      (λ p. in_use_of-join calls key p call leg there)

  -- a loan that went back
  pub lent-same : (i : ℕ) → i < length pools
      → IsLentTo (slice_set pools i (figures_at pools i)) calls
  lent-same i below =
      IsLentTo-set pools calls calls i (figures_at pools i) lent below
      (lent i below) (λ p differ. refl)

  -- an answer that is no loan
  pub lent-refused : (i : ℕ) → i < length pools
      → IsLentTo (slice_set pools i (figures_after_answer (figures_at pools i) Refused)) calls
  lent-refused i below =
      IsLentTo-set pools calls calls i
      (figures_after_answer (figures_at pools i) Refused) lent below
      (lent i below) (λ p differ. refl)

  pub lent-waiting : (i : ℕ) → i < length pools
      → IsLentTo (slice_set pools i (figures_after_answer (figures_at pools i) Wait)) calls
  lent-waiting i below =
      IsLentTo-set pools calls calls i (figures_after_answer (figures_at pools i) Wait) lent below
      (lent i below) (λ p differ. refl)

  module _ (call : Call) (there : fin.get calls key ≡ Some call)
      (below : call.pool < length pools) where
    -- what a call has is a part of what its pool has lent
    pub lent-part : call.units ≤ (figures_at pools call.pool).lent
    lent-part =
        omega (
          arith,
          lent call.pool below,
          total-part (units_from call.pool) calls key call there,
          same_pool call.pool call.units,
        )

    others_stay : (units p : ℕ) → p ≢ call.pool
        → in_use_of (update calls key (with_units units)) p ≡ in_use_of calls p
    others_stay units p differ =
        omega (
          arith,
          in_use_of-set_units calls key p call units there,
          other_pool call.pool p units differ,
          other_pool call.pool p call.units differ,
        )

    here_is : (units : ℕ) → in_use_of (update calls key (with_units units)) call.pool + call.units
        ≡ in_use_of calls call.pool + units
    here_is units =
        omega (
          arith,
          in_use_of-set_units calls key call.pool call units there,
          same_pool call.pool units,
          same_pool call.pool call.units,
        )

    pub lent-raised : (more : ℕ)
        → IsLentTo (slice_set pools call.pool
        (figures_after_answer (figures_at pools call.pool) (Lent more)))
        (update calls key (with_units (call.units + more)))
    lent-raised more =
        IsLentTo-set pools calls (update calls key (with_units (call.units + more))) call.pool
        (figures_after_answer (figures_at pools call.pool) (Lent more)) lent below
        (omega (arith, lent call.pool below, here_is (call.units + more)))
        (others_stay (call.units + more))

    pub lent-lowered : (units back : ℕ) → call.units ≡ units + back
        → IsLentTo (pools_after_return pools call.pool back) (update calls key (with_units units))
    lent-lowered units back is =
        IsLentTo-set pools calls (update calls key (with_units units)) call.pool
        (figures_after_return (figures_at pools call.pool) back) lent below
        (omega (arith, lent call.pool below, here_is units, lent-part, is))
        (others_stay units)

    -- an endpoint leaves, and the call ends with its last leg
    pub lent-left : (endpoint : List ℕ)
        → IsLentTo (pools_after_end pools (freed_by_leave calls key endpoint))
        (after_leave calls key endpoint)
    lent-left endpoint = cases (has_other call.legs endpoint) refl where
      cases : (b : Bool) → has_other call.legs endpoint ≡ b
          → IsLentTo (pools_after_end pools (freed_by_leave calls key endpoint))
          (after_leave calls key endpoint)
      cases true other =
          subst (λ freed. IsLentTo (pools_after_end pools freed) (after_leave calls key endpoint))
          (sym (freed-other calls key endpoint call there other))
          (IsLentTo-calls pools calls (after_leave calls key endpoint) lent
          (λ p. in_use_of-left calls key p call endpoint there other))
      cases false last =
          subst (λ freed. IsLentTo (pools_after_end pools freed) (after_leave calls key endpoint))
          (sym (freed-last calls key endpoint call there last))
          (IsLentTo-set pools calls (after_leave calls key endpoint) call.pool
          (figures_after_return (figures_at pools call.pool) call.units) lent below
          (omega (
            arith,
            lent call.pool below,
            in_use_of-ended calls key call.pool call endpoint there last,
            same_pool call.pool call.units,
            lent-part,
          ))
          (λ p differ. omega (
            arith,
            in_use_of-ended calls key p call endpoint there last,
            other_pool call.pool p call.units differ,
          )))
