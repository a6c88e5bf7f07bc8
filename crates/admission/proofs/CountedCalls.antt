-- What a change of one call does to the stored calls and to what is counted of them.
use Rattle.std.proofs.Common.{◌≡◌, ◌≢◌, ◌<◌, ◌+◌, ◌^◌, ℕ, List, length, true, false, refl, sym}
use Rattle.std.proofs.Common.{◌∙◌, ap, subst, Some, None}
use Rattle.std.specs.Prelude.{Option, is_some, if◌then◌else◌}
use Rattle.std.specs.FinMap as fin
use Rattle.std.specs.HashMap as hash
use Rattle.indexmap.specs.IndexMap.{IndexMap}
use Rattle.keyed.specs.Maps.{update}
use Rattle.ras_module.specs.CallKeys.{same_call_key}
use Rattle.ras_module.specs.declared.call_key.CallKey.{CallKey}
use Rattle.admission.specs.declared.call.Call.{Call}
use Rattle.admission.specs.declared.in_use.InUse.{InUse}
use Rattle.admission.specs.declared.leg.Leg.{Leg}
use Rattle.admission.specs.Calls.{OpenCalls, new_call, with_leg, with_units}
use Rattle.admission.specs.Calls.{after_leave, open_calls_of}
use Rattle.admission.specs.Legs.{leg_of, has_other}
use Rattle.admission.specs.inside.Counted.{AreCounted}
use Rattle.admission.specs.inside.Stored.{AreStored, Rewrites, with_legs_but}
use Rattle.admission.specs.inside.Sums.{AreSums, Grows}
use Rattle.admission.proofs.KeptSums.{AreSums-open, AreSums-join, AreSums-set_units, AreSums-left}
use Rattle.admission.proofs.KeptSums.{AreSums-ended}
use Rattle.admission.proofs.Leaving.{after_leave-other, after_leave-last}
use Rattle.admission.proofs.LegLemmas.{IsCall-open, IsCall-join, IsCall-set_units, IsCall-leave}
use Rattle.admission.proofs.StoredCalls.{open_of, table_of, get_call, calls_put, calls_removed}
use Rattle.admission.proofs.StoredCalls.{calls_rewritten, calls_updated}
use Rattle.admission.proofs.StoredCalls.{shorter_by_one, AreStored-same, AreStored-open}
use Rattle.admission.proofs.StoredCalls.{AreStored-rewrite, AreStored-end}

-- what was counted over these calls is counted over the same calls as they are stored
counted_over : {S : Type 0} (new : IndexMap CallKey Call S) (most : ℕ) (u : InUse)
    (calls : OpenCalls) → open_of new ≡ calls → AreStored new most → AreSums u calls
    → AreCounted new most u
counted_over new most u calls is stored sums = record {
  stored = stored;
  sums = subst (AreSums u) (sym is) sums;
}

module _ {S : Type 0} (old new : IndexMap CallKey Call S) (most : ℕ) (u : InUse)
    (s : AreCounted old most u) where
  -- the same entries
  pub AreCounted-same : new.entries ≡ old.entries → AreCounted new most u
  AreCounted-same is = counted_over new most u (open_of old) (ap open_calls_of is)
      (AreStored-same old new most s.stored is) s.sums

  module _ (key : CallKey) where
    pub AreCounted-open : (v : InUse) (pool units : ℕ) (leg : Leg)
        → fin.get (open_of old) key ≡ None → units < 2 ^ 32 → length old.entries ≢ most
        → hash.IsUnique same_call_key new
        → hash.Updates same_call_key old new key (Some (new_call pool units leg))
        → length new.entries ≡ length old.entries + 1
        → Grows u v pool units → AreCounted new most v
    AreCounted-open v pool units leg absent fits room unique updates longer grows =
        counted_over new most v (fin.insert (open_of old) key (new_call pool units leg))
        (calls_put old new key (new_call pool units leg) updates)
        (AreStored-open old new most s.stored key unique (new_call pool units leg) updates longer
        room (IsCall-open pool units leg fits))
        (AreSums-open (open_of old) key u s.sums v pool units leg grows absent)

    module _ (call : Call) (there : fin.get (open_of old) key ≡ Some call) where
      pub AreCounted-join : (leg : Leg) → length call.legs ≡ 1
          → leg_of call.legs leg.endpoint ≡ None
          → Rewrites (with_leg leg) old new key → AreCounted new most u
      AreCounted-join leg one none r =
          counted_over new most u (update (open_of old) key (with_leg leg))
          (calls_updated old new key (with_leg leg) r call there)
          (AreStored-rewrite old new key most (table_of old most) refl (with_leg leg) r call
          (sym there) s.stored (IsCall-join call leg one none))
          (AreSums-join (open_of old) key u s.sums call leg there)

      pub AreCounted-set_units : (v w : InUse) (units : ℕ) → units < 2 ^ 32
          → Rewrites (with_units units) old new key
          → Grows v u call.pool call.units → Grows v w call.pool units
          → AreCounted new most w
      AreCounted-set_units v w units fits r less more =
          counted_over new most w (update (open_of old) key (with_units units))
          (calls_updated old new key (with_units units) r call there)
          (AreStored-rewrite old new key most (table_of old most) refl (with_units units) r call
          (sym there) s.stored (IsCall-set_units call units fits))
          (AreSums-set_units (open_of old) key u s.sums v w call units there less more)

      module _ (endpoint : List ℕ) where
        -- an endpoint leaves, and another stays
        pub AreCounted-left : has_other call.legs endpoint ≡ true
            → Rewrites (with_legs_but endpoint) old new key → AreCounted new most u
        AreCounted-left other r =
            counted_over new most u (after_leave (open_of old) key endpoint)
            (calls_rewritten old new key (with_legs_but endpoint) r call there
            ∙ sym (after_leave-other (open_of old) key endpoint call there other))
            (AreStored-rewrite old new key most (table_of old most) refl (with_legs_but endpoint) r
            call (sym there) s.stored (IsCall-leave call endpoint other))
            (AreSums-left (open_of old) key u s.sums call endpoint there other)

        -- an endpoint leaves, and none stays
        pub AreCounted-ended : (v : InUse) → has_other call.legs endpoint ≡ false
            → (removed : Option Call) → removed ≡ hash.get same_call_key old key
            → hash.IsUnique same_call_key new → hash.Updates same_call_key old new key None
            → length new.entries + (if is_some removed then 1 else 0) ≡ length old.entries
            → Grows v u call.pool call.units → AreCounted new most v
        AreCounted-ended v last removed was unique updates fewer less =
            let shorter =
            shorter_by_one removed (length new.entries) (length old.entries) call fewer
            (was ∙ (get_call old key ∙ there)) in
            counted_over new most v (after_leave (open_of old) key endpoint)
            (calls_removed old new key updates
            ∙ sym (after_leave-last (open_of old) key endpoint call there last))
            (AreStored-end old new most s.stored key unique updates shorter)
            (AreSums-ended (open_of old) key u s.sums v call endpoint there less last)
