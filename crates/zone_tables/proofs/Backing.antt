-- Calls stay backed by the pools, within the limits, as they open, change and end.
use Rattle.std.proofs.Common.{◌≡◌, ◌<◌, ◌≤◌, ◌+◌, ◌^◌, All, ℕ, Bool, true, false, List, length}
use Rattle.std.proofs.Common.{refl, sym, ◌∙◌, ap, subst, arith, Some, None}
use Rattle.std.specs.Prelude.{Option, IfOk, IsSome, Ok, Result, if◌then◌else◌, nat_lt, slice_set}
use Rattle.std.specs.FinMap as fin
use Rattle.std.proofs.lemmas.List.{length-set}
use Rattle.keyed.proofs.Sums.{total-empty}
use Rattle.ras_module.proofs.CallKeyOrder.{call_key_cmp_total, call_key_cmp-IsAntisymmetric}
use Rattle.keyed.specs.Maps.{update}
use Rattle.keyed.proofs.Decide.{some_none, same_some}
use Rattle.admission.proofs.Leaving.{freed-other, freed-last}
use Rattle.ras_module.specs.declared.call_key.CallKey.{CallKey}
use Rattle.admission.specs.declared.call.Call.{Call}
use Rattle.admission.specs.declared.fault.CallFault.{CallFault}
use Rattle.admission.specs.declared.leg.Leg.{Leg}
use Rattle.admission.specs.declared.table.Left.{Left}
use Rattle.admission.specs.Calls.{CallTable, OpenCalls, EachCall, in_use, leg_at, legs_in}
use Rattle.admission.specs.Calls.{units_from, units_of, new_call, with_leg, with_units, after_leave}
use Rattle.admission.specs.Calls.{freed_by_leave, IsConsistent}
use Rattle.admission.specs.Legs.{has_other, leg_of}
use Rattle.admission.proofs.StoredCalls.{EachCall-insert}
use Rattle.admission.proofs.Soundness.{in_use-open, in_use-join, in_use-set_units, in_use-left}
use Rattle.admission.proofs.Soundness.{in_use-ended, EachCall-update, EachCall-leave}
use Rattle.admission.proofs.Soundness.{EachCall-empty}
use Rattle.pools.specs.declared.interface.Figures.{Figures}
use Rattle.pools.specs.declared.interface.Lend.{Lend}
use Rattle.pools.specs.declared.interface.Lend.TheVariants.{Lent, Refused, Wait}
use Rattle.pools.specs.Account.{IsAnswer, opening_account}
use Rattle.pools.specs.Account.{figures_after_answer}
use Rattle.zone_tables.specs.declared.unit_request.UnitRequest.{UnitRequest}
use Rattle.zone_tables.specs.declared.unit_request.Purpose.{Purpose}
use Rattle.zone_tables.specs.declared.unit_request.Purpose.TheVariants.{Opening, Raising}
use Rattle.zone_tables.specs.Pools.{AreWithinLimits, IsIdle, MayBeAsked, figures_at}
use Rattle.zone_tables.specs.Pools.{figures_after_return}
use Rattle.zone_tables.specs.Pools.{pools_after_answer}
use Rattle.zone_tables.specs.Pools.{pools_after_return, pools_after_end}
use Rattle.zone_tables.specs.Parts.{Lending, Usage, IsBacked, IsSoundUsage, with_usage}
use Rattle.zone_tables.specs.UnitRequests.{IsEnterable, IsGrantable, IsPurpose}
use Rattle.zone_tables.specs.UnitRequests.{IsUnitRequest, calls_after_answer, calls_with_grant}
use Rattle.zone_tables.specs.UnitRequests.{granted_calls, units_requested}
use Rattle.zone_tables.specs.Changes.{IsOpenable, IsJoinable, IsLowerable, leg_with}
use Rattle.zone_tables.specs.Soundness.{HasCounts}
use Rattle.zone_tables.proofs.Answered.{if_ok, is_there}
use Rattle.zone_tables.proofs.Lending.{lent-same, lent-opened, lent-opened_empty, lent-joined}
use Rattle.zone_tables.proofs.Lending.{lent-refused}
use Rattle.zone_tables.proofs.Lending.{lent-waiting, lent-part, lent-raised, lent-lowered}
use Rattle.zone_tables.proofs.Lending.{lent-left}

-- each call's pool is one of these, however the figures of one change
kept_length : (calls : OpenCalls) (pools : List Figures) (i : ℕ) (f : Figures)
    → EachCall (λ call. call.pool < length pools) calls
    → EachCall (λ call. call.pool < length (slice_set pools i f)) calls
kept_length calls pools i f each key call there =
    omega (arith, each key call there, length-set pools i f)

pub length-after_end : (pools : List Figures) (freed : Option (ℕ × ℕ))
    → length (pools_after_end pools freed) ≡ length pools
length-after_end pools None = refl
length-after_end pools (Some freed) =
    length-set pools freed.0 (figures_after_return (figures_at pools freed.0) freed.1)

-- a leg stands in a call
pub call_with_leg : (calls : OpenCalls) (key : CallKey) (endpoint : List ℕ)
    → IsSome (leg_at calls key endpoint) → (call : Call) × (fin.get calls key ≡ Some call)
call_with_leg calls key endpoint has = cases (fin.get calls key) refl has where
  cases : (w : Option Call) → fin.get calls key ≡ w → IsSome (leg_of (legs_in w) endpoint)
      → (call : Call) × (fin.get calls key ≡ Some call)
  cases None is has = absurd (cc has)
  cases (Some call) is has = (call, is)

module _ (u : Usage) (b : IsBacked u) (key : CallKey) where
  pub IsBacked-open : (pool : ℕ) (leg : Leg) → IsOpenable u key pool
      → IsBacked (with_usage u (fin.insert u.calls key (new_call pool 0 leg)) u.pools)
  IsBacked-open pool leg can = record {
    small = b.small;
    lent = lent-opened_empty u.pools u.calls key b.lent pool leg can.absent;
    pools = EachCall-insert (λ call. call.pool < length u.pools) u.calls key (new_call pool 0 leg)
        b.pools can.exists;
    call_limit = EachCall-insert (λ call. call.units ≤ u.call_limit) u.calls key
        (new_call pool 0 leg) b.call_limit (omega arith);
    limit = omega (arith, in_use-open u.calls key pool 0 leg can.absent, b.limit);
  }

  pub IsBacked-join : (leg : Leg) → IsJoinable u.calls key leg
      → IsBacked (with_usage u (update u.calls key (with_leg leg)) u.pools)
  IsBacked-join leg can = record {
    small = b.small;
    lent = lent-joined u.pools u.calls key b.lent can.call leg can.there;
    pools = EachCall-update (λ call. call.pool < length u.pools) u.calls key b.pools
        (with_leg leg) (λ call there. b.pools key call there);
    call_limit = EachCall-update (λ call. call.units ≤ u.call_limit) u.calls key b.call_limit
        (with_leg leg) (λ call there. b.call_limit key call there);
    limit = omega (arith, in_use-join u.calls key can.call leg can.there, b.limit);
  }

  -- what comes back was lent
  pub back_is_lent : (units pool back : ℕ) → IsLowerable u.calls key units pool back
      → back ≤ (figures_at u.pools pool).lent
  back_is_lent units pool back can =
      omega (
        arith,
        can.back_is,
        ap (λ p. (figures_at u.pools p).lent) can.pool_is,
        lent-part u.pools u.calls key b.lent can.call can.there (b.pools key can.call can.there),
      )

  pub IsBacked-lower : (units pool back : ℕ) → IsLowerable u.calls key units pool back
      → IsBacked (with_usage u (update u.calls key (with_units units))
      (pools_after_return u.pools pool back))
  IsBacked-lower units pool back can =
      subst (λ p. IsBacked (with_usage u (update u.calls key (with_units units))
      (pools_after_return u.pools p back))) can.pool_is (record {
        small = b.small;
        lent = lent-lowered u.pools u.calls key b.lent can.call can.there
            (b.pools key can.call can.there) units back can.back_is;
        pools = kept_length (update u.calls key (with_units units)) u.pools can.call.pool
            (figures_after_return (figures_at u.pools can.call.pool) back)
            (EachCall-update (λ call. call.pool < length u.pools) u.calls key b.pools
            (with_units units) (λ call there. b.pools key call there));
        call_limit = EachCall-update (λ call. call.units ≤ u.call_limit) u.calls key b.call_limit
            (with_units units)
            (λ call there. omega (arith, can.back_is, b.call_limit key can.call can.there));
        limit = omega (
          arith,
          in_use-set_units u.calls key can.call units
              can.there,
          can.back_is,
          b.limit,
        );
      })

  module _ (endpoint : List ℕ) (call : Call) (there : fin.get u.calls key ≡ Some call) where
    pub IsBacked-leave : IsBacked (with_usage u (after_leave u.calls key endpoint)
        (pools_after_end u.pools (freed_by_leave u.calls key endpoint)))
    IsBacked-leave = record {
      small = b.small;
      lent = lent-left u.pools u.calls key b.lent call there (b.pools key call there) endpoint;
      pools = λ k c is. omega (
        arith,
        EachCall-leave (λ call. call.pool < length u.pools) u.calls key b.pools call endpoint there
            (λ other. b.pools key call there) k c is,
        length-after_end u.pools (freed_by_leave u.calls key endpoint),
      );
      call_limit = EachCall-leave (λ call. call.units ≤ u.call_limit) u.calls key b.call_limit call
          endpoint there (λ other. b.call_limit key call there);
      limit = by_others (has_other call.legs endpoint) refl;
    } where
      by_others : (o : Bool) → has_other call.legs endpoint ≡ o
          → in_use (after_leave u.calls key endpoint) ≤ u.limit
      by_others true other =
          omega (arith, in_use-left u.calls key call endpoint there other, b.limit)
      by_others false last =
          omega (arith, in_use-ended u.calls key call endpoint there last, b.limit)

module _ (u : Usage) (b : IsBacked u) (id : List ℕ) (q : UnitRequest) (may : IsUnitRequest u q)
  where
    lent_for : (n : ℕ) → IsAnswer (figures_at u.pools q.pool) q.units (Lent n) → (p : Purpose)
        → IsPurpose u q p
        → IsBacked (with_usage u (granted_calls id q p n u.calls)
        (slice_set u.pools q.pool (figures_after_answer (figures_at u.pools q.pool) (Lent n))))
    lent_for n fits (Opening told) can = let leg = leg_with id told in record {
      small = b.small;
      lent = lent-opened u.pools u.calls q.call b.lent q.pool n leg can.0.absent may.pool;
      pools = kept_length (fin.insert u.calls q.call (new_call q.pool n leg)) u.pools q.pool
          (figures_after_answer (figures_at u.pools q.pool) (Lent n))
          (EachCall-insert (λ call. call.pool < length u.pools) u.calls q.call
          (new_call q.pool n leg) b.pools may.pool);
      call_limit = EachCall-insert (λ call. call.units ≤ u.call_limit) u.calls q.call
          (new_call q.pool n leg) b.call_limit (omega (arith, fits.1, can.1));
      limit = omega (arith, in_use-open u.calls q.call q.pool n leg can.0.absent, fits.1, may.limit);
    }
    lent_for n fits (Raising had) can =
        subst (λ h. IsBacked (with_usage u (update u.calls q.call (with_units (h + n)))
        (slice_set u.pools q.pool (figures_after_answer (figures_at u.pools q.pool) (Lent n)))))
        can.units_are
        (subst (λ p. IsBacked (with_usage u (update u.calls q.call (with_units (can.call.units + n)))
        (slice_set u.pools p (figures_after_answer (figures_at u.pools p) (Lent n)))))
        can.pool_is (record {
          small = b.small;
          lent = lent-raised u.pools u.calls q.call b.lent can.call can.there
              (b.pools q.call can.call can.there) n;
          pools = kept_length (update u.calls q.call (with_units (can.call.units + n))) u.pools
              can.call.pool (figures_after_answer (figures_at u.pools can.call.pool) (Lent n))
              (EachCall-update (λ call. call.pool < length u.pools) u.calls q.call b.pools
              (with_units (can.call.units + n)) (λ call there. b.pools q.call call there));
          call_limit = EachCall-update (λ call. call.units ≤ u.call_limit) u.calls q.call b.call_limit
              (with_units (can.call.units + n))
              (λ call there. omega (arith, can.units_are, can.limit, fits.1));
          limit = omega (
            arith,
            in_use-set_units u.calls q.call can.call (can.call.units + n) can.there,
            fits.1,
            may.limit,
          );
        }))

    -- what is asked of the pool
    asked_small : (p : Purpose) → IsPurpose u q p → q.units < 2 ^ 32
    asked_small (Opening told) can = omega (arith, can.1, b.small)
    asked_small (Raising had) can = omega (arith, can.limit, b.small)

    pub may_request : All (HasCounts (2 ^ 63)) u.pools → MayBeAsked u.pools q.pool q.units
    may_request counts =
        let here = counts q.pool (opening_account 0).figures may.pool in
        record {
          exists = may.pool;
          at_least_one = may.some;
          at_most_bandwidth = asked_small q.purpose may.purpose;
          refusals_below = here.refusals;
          waits_below = here.waits;
        }

    -- what is lent may be entered
    grantable : (t : CallTable) → t.calls ≡ u.calls → t.most ≡ u.most → 0 < t.room → (n : ℕ)
        → n ≤ q.units → (p : Purpose) → IsPurpose u q p → IsGrantable t q p n
    grantable t calls most room n few (Opening told) can = (
      ap (λ (cs : OpenCalls). fin.get cs q.call) calls ∙ can.0.absent,
      (λ full. can.0.place (ap fin.len (sym calls) ∙ (full ∙ most))),
      room,
      omega (arith, can.1, b.small, few),
    )
    grantable t calls most room n few (Raising had) can = (
      is_there (fin.get t.calls q.call) can.call
          (ap (λ (cs : OpenCalls). fin.get cs q.call) calls ∙ can.there),
      omega (arith, can.limit, b.small, few),
    )

    pub enterable : (t : CallTable) → t.calls ≡ u.calls → t.most ≡ u.most → 0 < t.room
        → (f : Figures) (answer : Lend) → IsAnswer f q.units answer → IsEnterable t q answer
    enterable t calls most room f (Lent n) fits =
        grantable t calls most room n fits.1 q.purpose may.purpose
    enterable t calls most room f Refused fits = tt
    enterable t calls most room f Wait fits = tt

    pub IsBacked-answer : (answer : Lend) → IsAnswer (figures_at u.pools q.pool) q.units answer
        → IsBacked (with_usage u (calls_after_answer id q answer u.calls)
        (pools_after_answer u.pools (units_requested q) answer))
    IsBacked-answer (Lent n) fits = by_test (nat_lt n q.least) where
      by_test : (b : Bool)
          → IsBacked (with_usage u (calls_with_grant id q (if b then None else Some n) u.calls)
          (slice_set u.pools q.pool (if b
          then figures_at u.pools q.pool
          else figures_after_answer (figures_at u.pools q.pool) (Lent n))))
      by_test true = record {
        small = b.small;
        lent = lent-same u.pools u.calls q.call b.lent q.pool may.pool;
        pools = kept_length u.calls u.pools q.pool (figures_at u.pools q.pool) b.pools;
        call_limit = b.call_limit;
        limit = b.limit;
      }
      by_test false = lent_for n fits q.purpose may.purpose
    IsBacked-answer Refused fits = record {
      small = b.small;
      lent = lent-refused u.pools u.calls q.call b.lent q.pool may.pool;
      pools = kept_length u.calls u.pools q.pool
          (figures_after_answer (figures_at u.pools q.pool) Refused) b.pools;
      call_limit = b.call_limit;
      limit = b.limit;
    }
    IsBacked-answer Wait fits = record {
      small = b.small;
      lent = lent-waiting u.pools u.calls q.call b.lent q.pool may.pool;
      pools = kept_length u.calls u.pools q.pool
          (figures_after_answer (figures_at u.pools q.pool) Wait) b.pools;
      call_limit = b.call_limit;
      limit = b.limit;
    }

-- the same calls and pools are backed
pub IsBacked-is : (u : Usage) (calls : OpenCalls) (pools : List Figures) (most : ℕ) → IsBacked u
    → calls ≡ u.calls → pools ≡ u.pools → most ≡ u.most
    → IsBacked (record {
      calls = calls;
      pools = pools;
      most = most;
      limit = u.limit;
      call_limit = u.call_limit;
    })
IsBacked-is u calls pools most b same_calls same_pools same_most =
    subst IsBacked (λ i. record {
      calls = sym same_calls i;
      pools = sym same_pools i;
      most = sym same_most i;
      limit = u.limit;
      call_limit = u.call_limit;
    }) b

-- the usage that a table of calls and the figures of pools make
abbrev pub usage_in : CallTable → List Figures → ℕ → ℕ → Usage
usage_in table pools limit call_limit = record {
  calls = table.calls;
  pools = pools;
  most = table.most;
  limit = limit;
  call_limit = call_limit;
}

-- what an ended call gives back was lent, by a pool that is there
module _ (u : Usage) (b : IsBacked u) (key : CallKey) (endpoint : List ℕ) (call : Call)
    (there : fin.get u.calls key ≡ Some call) (freed : ℕ × ℕ)
    (is : freed_by_leave u.calls key endpoint ≡ Some freed) where
  its_own : (o : Bool) → has_other call.legs endpoint ≡ o → (call.pool, call.units) ≡ freed
  its_own true other = some_none (sym is ∙ freed-other u.calls key endpoint call there other)
  its_own false last =
      same_some (call.pool, call.units) freed
      (sym (freed-last u.calls key endpoint call there last) ∙ is)

  pub freed_pool : freed.0 < length u.pools
  freed_pool = subst (λ (f : ℕ × ℕ). f.0 < length u.pools)
      (its_own (has_other call.legs endpoint) refl) (b.pools key call there)

  pub freed_is_lent : freed.1 ≤ (figures_at u.pools freed.0).lent
  freed_is_lent = subst (λ (f : ℕ × ℕ). f.1 ≤ (figures_at u.pools f.0).lent)
      (its_own (has_other call.legs endpoint) refl)
      (lent-part u.pools u.calls key b.lent call there (b.pools key call there))

-- the call that an endpoint leaves, in the calls as they are held
pub call_left : (was value : Lending) → was ≡ value → (key : CallKey) (endpoint : List ℕ)
    → IsSome (leg_at value.usage.calls key endpoint)
    → (call : Call) × (fin.get was.usage.calls key ≡ Some call)
call_left was value is key endpoint has =
    call_with_leg was.usage.calls key endpoint
    (subst (λ (l : Lending). IsSome (leg_at l.usage.calls key endpoint)) (sym is) has)

-- what the call had from its pool, as the table returned it
pub freed_as : (r : Result Left CallFault) (left : Left) → r ≡ Ok left
    → (freed was : Option (ℕ × ℕ)) → IfOk r (λ left. left.ended ≡ freed) → left.ended ≡ was
    → freed ≡ was
freed_as r left ok freed was named is =
    sym (if_ok (λ left. left.ended ≡ freed) r left ok named) ∙ is

-- no pool has lent more than its limit
pub within_idle : (pools : List Figures) → All IsIdle pools → AreWithinLimits pools
within_idle pools idle k d below = omega (arith, (idle k d below).lent)

-- no call, and pools that have lent nothing
pub IsBacked-start : (pools : List Figures) (most limit call_limit : ℕ)
    → All IsIdle pools → call_limit < 2 ^ 32
    → IsBacked (record {
      calls = fin.empty;
      pools = pools;
      most = most;
      limit = limit;
      call_limit = call_limit;
    })
IsBacked-start pools most limit call_limit idle small = record {
  small = small;
  lent = λ p below. omega (
    arith,
    (idle p (opening_account 0).figures below).lent,
    total-empty call_key_cmp_total call_key_cmp-IsAntisymmetric (units_from p),
  );
  pools = EachCall-empty (λ call. call.pool < length pools);
  call_limit = EachCall-empty (λ call. call.units ≤ call_limit);
  limit = omega (arith, total-empty call_key_cmp_total call_key_cmp-IsAntisymmetric units_of);
}

-- what holds of the calls and the pools as they are held
pub IsSoundUsage-held : (table : CallTable) (pools : List Figures) (limit call_limit : ℕ)
    → IsBacked (usage_in table pools limit call_limit) → IsConsistent table
    → AreWithinLimits pools → IsSoundUsage (usage_in table pools limit call_limit)
IsSoundUsage-held table pools limit call_limit backed sound within = record {
  backed = backed;
  each = sound.each;
  few = sound.few;
  most = sound.most;
  within = within;
}
