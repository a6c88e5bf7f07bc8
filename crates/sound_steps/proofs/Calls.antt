-- The calls and the pools stay sound as a call opens, changes or ends.
use Rattle.std.proofs.Common.{◌≡◌, ◌<◌, ◌≤◌, ◌+◌, ℕ, Bool, true, false, List, length, refl, sym}
use Rattle.std.proofs.Common.{◌∙◌, ap, subst, Some, None, arith}
use Rattle.std.specs.Prelude.{Option, if◌then◌else◌, nat_lt, option_and_then}
use Rattle.std.specs.FinMap as fin
use Rattle.keyed.specs.Maps.{update}
use Rattle.keyed.proofs.Decide.{same_some}
use Rattle.keyed.proofs.Maps.{remove_absent}
use Rattle.ras_module.specs.declared.call_key.CallKey.{CallKey}
use Rattle.ras_module.proofs.CallKeyOrder.{call_key_cmp_total, call_key_cmp-IsAntisymmetric}
use Rattle.admission.specs.declared.call.Call.{Call}
use Rattle.admission.specs.declared.leg.Leg.{Leg}
use Rattle.admission.specs.Calls.{EachCall, IsCall, OpenCalls, after_leave, freed_by}
use Rattle.admission.specs.Calls.{freed_by_leave, new_call, put_or_remove, rest_of_call, with_leg}
use Rattle.admission.specs.Calls.{with_units}
use Rattle.admission.specs.Legs.{has_other}
use Rattle.admission.proofs.LegLemmas.{IsCall-join, IsCall-leave, IsCall-open, IsCall-set_units}
use Rattle.admission.proofs.Leaving.{after_leave-last, after_leave-other}
use Rattle.admission.proofs.Soundness.{EachCall-leave, EachCall-update}
use Rattle.admission.proofs.StoredCalls.{EachCall-insert}
use Rattle.admission.specs.inside.Stored.{with_legs_but}
use Rattle.pools.specs.declared.interface.Lend.{Lend}
use Rattle.pools.specs.declared.interface.Lend.TheVariants.{Lent, Refused, Wait}
use Rattle.pools.specs.Account.{IsAnswer}
use Rattle.zone_tables.specs.declared.change.CallChange.{CallChange}
use Rattle.zone_tables.specs.declared.change.CallChange.TheVariants.{Opening, Joining, Lowering}
use Rattle.zone_tables.specs.declared.change.CallChange.TheVariants.{Leaving}
use Rattle.zone_tables.specs.declared.unit_request.Purpose.{Purpose}
use Rattle.zone_tables.specs.declared.unit_request.Purpose.TheVariants as purpose
use Rattle.zone_tables.specs.declared.unit_request.UnitRequest.{UnitRequest}
use Rattle.zone_tables.specs.Changes.{IsCallChange, IsJoinable, IsLowerable, IsOpenable}
use Rattle.zone_tables.specs.Changes.{calls_after, leg_with, pools_after}
use Rattle.zone_tables.specs.Parts.{IsSoundUsage, Usage, with_usage}
use Rattle.zone_tables.specs.Pools.{AreWithinLimits, figures_at, pools_after_answer}
use Rattle.zone_tables.specs.Pools.{pools_after_end}
use Rattle.zone_tables.specs.Pools.{pools_after_return}
use Rattle.zone_tables.specs.UnitRequests.{IsPurpose, IsUnitRequest, calls_after_answer}
use Rattle.zone_tables.specs.UnitRequests.{calls_with_grant, granted_calls, units_requested}
use Rattle.zone_tables.proofs.Backing.{IsBacked-answer, IsBacked-join, IsBacked-leave}
use Rattle.zone_tables.proofs.Backing.{IsBacked-lower, IsBacked-open, freed_pool}
use Rattle.zone_tables.proofs.OnePool.{AreWithinLimits-answer, AreWithinLimits-return}
use Rattle.sound_steps.proofs.Sizes.{len_put, len_removed, len_updated, len_within}

module _ (u : Usage) (sound : IsSoundUsage u) where
  -- a call opens without units
  opened : (key : CallKey) (pool : ℕ) (leg : Leg) → IsOpenable u key pool
      → IsSoundUsage (with_usage u (fin.insert u.calls key (new_call pool 0 leg)) u.pools)
  opened key pool leg can = record {
    backed = IsBacked-open u sound.backed key pool leg can;
    each = EachCall-insert IsCall u.calls key (new_call pool 0 leg) sound.each
        (IsCall-open pool 0 leg (omega arith));
    few = len_within call_key_cmp_total call_key_cmp-IsAntisymmetric u.calls key
        (new_call pool 0 leg) u.most sound.few (λ none. omega (arith, sound.few, can.place));
    most = sound.most;
    within = sound.within;
  }

  -- an endpoint joins one
  joined : (key : CallKey) (leg : Leg) → IsJoinable u.calls key leg
      → IsSoundUsage (with_usage u (update u.calls key (with_leg leg)) u.pools)
  joined key leg can = record {
    backed = IsBacked-join u sound.backed key leg can;
    each = EachCall-update IsCall u.calls key sound.each (with_leg leg)
        (λ call there. subst (λ (call : Call). IsCall (with_leg leg call))
        (same_some can.call call (sym can.there ∙ there))
        (IsCall-join can.call leg can.one can.other (sound.each key can.call can.there)));
    few = omega (
      arith,
      len_updated call_key_cmp_total call_key_cmp-IsAntisymmetric u.calls key (with_leg leg),
      sound.few,
    );
    most = sound.most;
    within = sound.within;
  }

  -- one gives units back
  lowered : (key : CallKey) (units pool back : ℕ)
      → IsLowerable u.calls key units pool back
      → IsSoundUsage (with_usage u (update u.calls key (with_units units))
      (pools_after_return u.pools pool back))
  lowered key units pool back can = record {
    backed = IsBacked-lower u sound.backed key units pool back can;
    each = EachCall-update IsCall u.calls key sound.each (with_units units)
        (λ call there. IsCall-set_units call units
        (omega (arith, can.back_is, (sound.each key can.call can.there).units))
        (sound.each key call there));
    few = omega (
      arith,
      len_updated call_key_cmp_total call_key_cmp-IsAntisymmetric u.calls key
          (with_units units),
      sound.few,
    );
    most = sound.most;
    within = AreWithinLimits-return u.pools pool back sound.within
        (subst (λ p. p < length u.pools) can.pool_is
        ((sound.backed).pools key can.call can.there));
  }

  module _ (key : CallKey) (endpoint : List ℕ) where
    abbrev pub left : Usage
    left = with_usage u (after_leave u.calls key endpoint)
        (pools_after_end u.pools (freed_by_leave u.calls key endpoint))

    -- no more calls are open once it has left one
    few_left : (call : Call) → fin.get u.calls key ≡ Some call
        → fin.len (after_leave u.calls key endpoint) ≤ fin.len u.calls
    few_left call there = cases (has_other call.legs endpoint) refl where
      cases : (b : Bool) → has_other call.legs endpoint ≡ b
          → fin.len (after_leave u.calls key endpoint) ≤ fin.len u.calls
      cases true other =
          omega (
            arith,
            ap (λ (calls : OpenCalls). fin.len calls)
                (after_leave-other u.calls key endpoint call there other),
            len_put call_key_cmp_total call_key_cmp-IsAntisymmetric u.calls key call
                (with_legs_but endpoint call) there,
          )
      cases false last =
          omega (
            arith,
            ap (λ (calls : OpenCalls). fin.len calls)
                (after_leave-last u.calls key endpoint call there last),
            len_removed call_key_cmp_total call_key_cmp-IsAntisymmetric u.calls key,
          )

    -- what comes back is lent no longer, so no limit is passed
    within_left : (call : Call) → fin.get u.calls key ≡ Some call → (freed : Option (ℕ × ℕ))
        → freed_by_leave u.calls key endpoint ≡ freed
        → AreWithinLimits (pools_after_end u.pools freed)
    within_left call there None is = sound.within
    within_left call there (Some freed) is = AreWithinLimits-return u.pools freed.0 freed.1
        sound.within (freed_pool u sound.backed key endpoint call there freed is)

    -- an endpoint leaves one, which ends with its last leg
    left_there : (call : Call) → fin.get u.calls key ≡ Some call → IsSoundUsage left
    left_there call there = record {
      backed = IsBacked-leave u sound.backed key endpoint call there;
      each = EachCall-leave IsCall u.calls key sound.each call endpoint there
          (λ other. IsCall-leave call endpoint other (sound.each key call there));
      few = omega (arith, few_left call there, sound.few);
      most = sound.most;
      within = within_left call there (freed_by_leave u.calls key endpoint) refl;
    }

    -- without such a call nothing changes
    left_none : fin.get u.calls key ≡ None → IsSoundUsage left
    left_none absent =
        let calls : after_leave u.calls key endpoint ≡ u.calls =
        ap (λ (w : Option Call). put_or_remove u.calls key
        (option_and_then (rest_of_call endpoint) w)) absent
        ∙ sym (remove_absent call_key_cmp_total call_key_cmp-IsAntisymmetric u.calls key absent) in
        let pools : pools_after_end u.pools (freed_by_leave u.calls key endpoint) ≡ u.pools =
        ap (λ (w : Option Call). pools_after_end u.pools
        (option_and_then (freed_by endpoint) w)) absent in
        subst IsSoundUsage (λ i. with_usage u (sym calls i) (sym pools i)) sound

    -- whether there is such a call or not
    pub usage-left : IsSoundUsage left
    usage-left = cases (fin.get u.calls key) refl where
      cases : (w : Option Call) → fin.get u.calls key ≡ w → IsSoundUsage left
      cases None absent = left_none absent
      cases (Some call) there = left_there call there

  -- whatever change of a call can be made
  pub usage-after : (id : List ℕ) (change : CallChange) → IsCallChange u id change
      → IsSoundUsage (with_usage u (calls_after id change u.calls)
      (pools_after id change u.calls u.pools))
  usage-after id (Opening key pool told) can = opened key pool (leg_with id told) can
  usage-after id (Joining key told) can = joined key (leg_with id told) can
  usage-after id (Lowering key units pool back) can = lowered key units pool back can
  usage-after id (Leaving key) can = usage-left key id

  -- units are requested of a pool
  module _ (id : List ℕ) (q : UnitRequest) (may : IsUnitRequest u q) where
    granted_each : (units : ℕ) → units ≤ q.units → (p : Purpose) → IsPurpose u q p
        → EachCall IsCall (granted_calls id q p units u.calls)
    granted_each units few (purpose.Opening told) can =
        let leg = leg_with id told in
        EachCall-insert IsCall u.calls q.call (new_call q.pool units leg) sound.each
        (IsCall-open q.pool units leg (omega (arith, few, can.1, (sound.backed).small)))
    granted_each units few (purpose.Raising had) can =
        EachCall-update IsCall u.calls q.call sound.each (with_units (had + units))
        (λ call there. IsCall-set_units call (had + units)
        (omega (arith, few, can.limit, (sound.backed).small)) (sound.each q.call call there))

    -- and no more of them than there may be
    granted_few : (units : ℕ) → (p : Purpose) → IsPurpose u q p
        → fin.len (granted_calls id q p units u.calls) ≤ u.most
    granted_few units (purpose.Opening told) can =
        len_within call_key_cmp_total call_key_cmp-IsAntisymmetric u.calls q.call
        (new_call q.pool units (leg_with id told)) u.most sound.few
        (λ none. omega (arith, sound.few, can.0.place))
    granted_few units (purpose.Raising had) can =
        omega (
          arith,
          len_updated call_key_cmp_total call_key_cmp-IsAntisymmetric u.calls q.call
              (with_units (had + units)),
          sound.few,
        )

    -- what is lent is entered, unless it is less than the least that is of use
    answered_calls : (answer : Lend) → IsAnswer (figures_at u.pools q.pool) q.units answer
        → EachCall IsCall (calls_after_answer id q answer u.calls)
        × (fin.len (calls_after_answer id q answer u.calls) ≤ u.most)
    answered_calls (Lent n) fits = by_test (nat_lt n q.least) where
      by_test : (b : Bool)
          → EachCall IsCall (calls_with_grant id q (if b then None else Some n) u.calls)
          × (fin.len (calls_with_grant id q (if b then None else Some n) u.calls) ≤ u.most)
      by_test true = (sound.each, sound.few)
      by_test false =
          (granted_each n fits.1 q.purpose may.purpose, granted_few n q.purpose may.purpose)
    answered_calls Refused fits = (sound.each, sound.few)
    answered_calls Wait fits = (sound.each, sound.few)

    -- and it gives one of the answers that it may give
    pub usage-answered : (answer : Lend)
        → IsAnswer (figures_at u.pools q.pool) q.units answer
        → IsSoundUsage (with_usage u (calls_after_answer id q answer u.calls)
        (pools_after_answer u.pools (units_requested q) answer))
    usage-answered answer fits =
        let calls = answered_calls answer fits in
        record {
          backed = IsBacked-answer u sound.backed id q may answer fits;
          each = calls.0;
          few = calls.1;
          most = sound.most;
          within = AreWithinLimits-answer u.pools (units_requested q) answer sound.within may.pool
              fits;
        }
