-- The tables of a zone stay sound as they change.
use Rattle.std.proofs.Common.{◌≡◌, ℕ, List, [], ◌∷◌, length, refl, sym, ◌∙◌, ap, subst}
use Rattle.std.proofs.Common.{Some, None, arith}
use Rattle.std.specs.Prelude.{IfSome, Option, option_and_then}
use Rattle.std.specs.Option.{unwrap_or}
use Rattle.std.specs.List.{fold}
use Rattle.std.specs.FinMap as fin
use Rattle.std.proofs.lemmas.List.{length-set}
use Rattle.keyed.specs.Maps.{update}
use Rattle.keyed.proofs.Maps.{remove_absent}
use Rattle.ras_module.specs.declared.call_key.CallKey.{CallKey}
use Rattle.ras_module.proofs.CallKeyOrder.{call_key_cmp_total, call_key_cmp-IsAntisymmetric}
use Rattle.registrations.specs.declared.registration.Registration.{Registration}
use Rattle.registrations.specs.Registry.{Live, after_ask, after_calm, with_deadline}
use Rattle.admission.specs.declared.call.Call.{Call}
use Rattle.admission.specs.Calls.{OpenCalls, after_leave, freed_by_leave, put_or_remove}
use Rattle.admission.specs.Calls.{legs_of, rest_of_call}
use Rattle.admission.proofs.Soundness.{EachLeg-leave}
use Rattle.pools.specs.declared.interface.Figures.{Figures}
use Rattle.pools.specs.declared.interface.Lend.{Lend}
use Rattle.pools.specs.Account.{IsAnswer, figures_after_least}
use Rattle.zone_config.proofs.RangesKept.{limits}
use Rattle.zone_tables.specs.declared.change.Change.{Change}
use Rattle.zone_tables.specs.declared.change.Change.TheVariants.{Nothing, Endpoint, Calls}
use Rattle.zone_tables.specs.declared.unit_request.UnitRequest.{UnitRequest}
use Rattle.zone_tables.specs.Changes.{IsPossible, IsRegistered, after_change}
use Rattle.zone_tables.specs.Changes.{after_endpoint_change, calls_after, pools_after, roll_of}
use Rattle.zone_tables.specs.Disengaging.{without_endpoint, without_leg_of, without_legs_of}
use Rattle.zone_tables.specs.Disengaging.{without_silent}
use Rattle.zone_tables.specs.Leaving.{AreSameButLent, IsOther}
use Rattle.zone_tables.specs.Parts.{IsSoundRoll, IsSoundUsage, usage_of, with_usage}
use Rattle.zone_tables.specs.Pools.{figures_at, pools_after_answer, pools_after_end}
use Rattle.zone_tables.specs.Soundness.{CountsOneMore, HaveEndpoints, SoundTables}
use Rattle.zone_tables.specs.Tables.{Tables, heard_now, with_live}
use Rattle.zone_tables.specs.UnitRequests.{IsUnitRequest, calls_after_answer, leg_of_purpose}
use Rattle.zone_tables.specs.UnitRequests.{units_requested}
use Rattle.zone_tables.proofs.Backing.{length-after_end}
use Rattle.zone_tables.proofs.ButLent.{counts_same, same_after_end, same_through}
use Rattle.zone_tables.proofs.Departing.{endpoints_stay, legs_left, over_all, same_after_leave}
use Rattle.zone_tables.proofs.Legs.{legs-answer, legs-calls, legs-endpoint, legs-heard}
use Rattle.zone_tables.proofs.Legs.{legs-remove, legs-update, legs_without, length-pools_after}
use Rattle.sound_steps.proofs.Calls.{usage-after, usage-answered, usage-left}
use Rattle.sound_steps.proofs.Endpoints.{roll-after, roll-changed, roll-heard, roll-went}

-- sound tables have sound endpoints, and sound calls and pools
roll-sound : (z : Tables) → SoundTables z → IsSoundRoll (roll_of z)
roll-sound z sound = record {
  consistent = sound.endpoints;
  aliases = sound.aliases;
  few = sound.few_endpoints;
}

-- the limits of the calls are small enough by the ranges of the settings
pub usage-sound : (z : Tables) → SoundTables z → IsSoundUsage (usage_of z)
usage-sound z sound =
    let within = limits z.config (sound.settings).ranges in
    record {
      backed = record {
        small = omega (arith, within.call_limit);
        lent = sound.lent;
        pools = sound.call_pools;
        call_limit = sound.call_limit;
        limit = sound.limit;
      };
      each = sound.calls;
      few = sound.few_calls;
      most = within.calls;
      within = sound.pool_limits;
    }

module _ (z : Tables) (sound : SoundTables z) where
  -- other endpoints, each leg's among them
  with_endpoints : (live : Live)
      → IsSoundRoll (record { live = live; most = z.config.endpoints })
      → HaveEndpoints live z.calls → SoundTables (with_live z live)
  with_endpoints live roll legs = record {
    settings = sound.settings;
    endpoints = roll.consistent;
    aliases = roll.aliases;
    few_endpoints = roll.few;
    calls = sound.calls;
    few_calls = sound.few_calls;
    legs = legs;
    call_limit = sound.call_limit;
    call_pools = sound.call_pools;
    lent = sound.lent;
    pool_limits = sound.pool_limits;
    limit = sound.limit;
    pools = sound.pools;
  }

  -- other calls, of endpoints that are registered, and as many pools
  with_usages : (calls : OpenCalls) (pools : List Figures)
      → IsSoundUsage (with_usage (usage_of z) calls pools)
      → HaveEndpoints z.live calls → length pools ≡ length z.pools
      → SoundTables (record z { calls = calls; pools = pools })
  with_usages calls pools usage legs as_many = record {
    settings = sound.settings;
    endpoints = sound.endpoints;
    aliases = sound.aliases;
    few_endpoints = sound.few_endpoints;
    calls = usage.each;
    few_calls = usage.few;
    legs = legs;
    call_limit = (usage.backed).call_limit;
    call_pools = (usage.backed).pools;
    lent = (usage.backed).lent;
    pool_limits = usage.within;
    limit = (usage.backed).limit;
    pools = as_many ∙ sound.pools;
  }

  -- a change that can be made
  pub tables-after : (now : ℕ) (who : Option (List ℕ)) (change : Change) → IsPossible z who change
      → SoundTables (after_change now who change z)
  tables-after now who Nothing can = sound
  tables-after now who (Endpoint change) can =
      with_endpoints (after_endpoint_change now who change z.live)
      (roll-after (roll_of z) (roll-sound z sound) now who change can.0)
      (legs-endpoint z.live z.calls now who change sound.legs can.1)
  tables-after now who (Calls change) can =
      let id = unwrap_or who [] in
      with_usages (calls_after id change z.calls) (pools_after id change z.calls z.pools)
      (usage-after (usage_of z) (usage-sound z sound) id change can.1.0)
      (legs-calls z.live (usage_of z) id change sound.legs can.1.0 can.1.1)
      (length-pools_after id change z.calls z.pools)

  -- an endpoint was heard
  pub tables-heard : (now : ℕ) (id : List ℕ) → SoundTables (with_live z (heard_now now id z.live))
  tables-heard now id =
      with_endpoints (heard_now now id z.live)
      (roll-heard (roll_of z) (roll-sound z sound) now id)
      (legs-heard z.live z.calls now id sound.legs)

  -- one changes that keeps its identifier, its call signal address and its aliases
  tables-changed : (id : List ℕ) (f : Registration → Registration)
      → ((r : Registration) → (f r).identifier ≡ r.identifier)
      → ((r : Registration) → (f r).call_signal ≡ r.call_signal)
      → ((r : Registration) → (f r).aliases ≡ r.aliases)
      → SoundTables (with_live z (update z.live id f))
  tables-changed id f same_id same_signal same_aliases =
      with_endpoints (update z.live id f)
      (roll-changed (roll_of z) (roll-sound z sound) id f same_id same_signal same_aliases)
      (legs-update z.live z.calls id f sound.legs)

  -- it was asked for a sign of life
  pub tables-asked : (now : ℕ) (id : List ℕ)
      → SoundTables (with_live z (update z.live id (after_ask now)))
  tables-asked now id = tables-changed id (after_ask now) (λ r. refl) (λ r. refl) (λ r. refl)

  -- its time to live is granted anew
  pub tables-renewed : (id : List ℕ) (deadline : ℕ)
      → SoundTables (with_live z (update z.live id (with_deadline deadline)))
  tables-renewed id deadline =
      tables-changed id (with_deadline deadline) (λ r. refl) (λ r. refl) (λ r. refl)

  -- one that is in no call goes
  pub tables-removed : (id : List ℕ) → legs_of z.calls id ≡ 0
      → SoundTables (with_live z (fin.remove z.live id))
  tables-removed id zero =
      with_endpoints (fin.remove z.live id) (roll-went (roll_of z) (roll-sound z sound) id)
      (legs_without z.live z.calls id sound.legs zero)

  -- its tries are counted from 0 again
  pub tables-calm : (id : List ℕ) → SoundTables (with_live z (update z.live id after_calm))
  tables-calm id = tables-changed id after_calm (λ r. refl) (λ r. refl) (λ r. refl)

  -- a pool gave an answer that it may give
  pub tables-answered : (id : List ℕ) (q : UnitRequest) → IsUnitRequest (usage_of z) q
      → IfSome (leg_of_purpose id q.purpose) (IsRegistered z.live) → (answer : Lend)
      → IsAnswer (figures_at z.pools q.pool) q.units answer
      → SoundTables (record z {
        calls = calls_after_answer id q answer z.calls;
        pools = pools_after_answer z.pools (units_requested q) answer;
      })
  tables-answered id q may registered answer fits =
      with_usages (calls_after_answer id q answer z.calls)
      (pools_after_answer z.pools (units_requested q) answer)
      (usage-answered (usage_of z) (usage-sound z sound) id q may answer fits)
      (legs-answer z.live z.calls id q answer sound.legs registered)
      (length-set z.pools q.pool (figures_after_least (figures_at z.pools q.pool) q.least answer))

  -- an endpoint left a call, if there is such a call and it had a leg
  pub tables-left : (key : CallKey) (endpoint : List ℕ)
      → SoundTables (without_leg_of z key endpoint)
  tables-left key endpoint =
      with_usages (after_leave z.calls key endpoint)
      (pools_after_end z.pools (freed_by_leave z.calls key endpoint))
      (usage-left (usage_of z) (usage-sound z sound) key endpoint)
      (legs (fin.get z.calls key) refl)
      (length-after_end z.pools (freed_by_leave z.calls key endpoint)) where
        legs : (w : Option Call) → fin.get z.calls key ≡ w
            → HaveEndpoints z.live (after_leave z.calls key endpoint)
        legs None absent =
            subst (λ (calls : OpenCalls). HaveEndpoints z.live calls)
            (remove_absent call_key_cmp_total call_key_cmp-IsAntisymmetric z.calls key absent
            ∙ sym (ap (λ (w : Option Call). put_or_remove z.calls key
            (option_and_then (rest_of_call endpoint) w)) absent)) sound.legs
        legs (Some call) there =
            EachLeg-leave (IsRegistered z.live) z.calls key sound.legs call endpoint there

-- it left one call after the other
left_calls : (endpoint : List ℕ) (keys : List CallKey) (z : Tables) → SoundTables z
    → SoundTables (fold (λ left call. without_leg_of left call endpoint) z keys)
left_calls endpoint [] z sound = sound
left_calls endpoint (key ∷ keys) z sound =
    left_calls endpoint keys (without_leg_of z key endpoint) (tables-left z sound key endpoint)

-- and units came back to the pools
pools_left : (endpoint : List ℕ) (keys : List CallKey) (z : Tables)
    → AreSameButLent z.pools
    (fold (λ left call. without_leg_of left call endpoint) z keys).pools
pools_left endpoint [] z = same_after_end z.pools None
pools_left endpoint (key ∷ keys) z =
    same_through z.pools (without_leg_of z key endpoint).pools
    (fold (λ left call. without_leg_of left call endpoint) (without_leg_of z key endpoint)
    keys).pools
    (same_after_leave endpoint z.calls z.pools key)
    (pools_left endpoint keys (without_leg_of z key endpoint))

-- so no pool counted a refusal or a wait
pub counts-alone : (z : Tables) (endpoint : List ℕ)
    → CountsOneMore z.pools (without_legs_of z endpoint).pools
counts-alone z endpoint =
    counts_same z.pools (without_legs_of z endpoint).pools
    (pools_left endpoint (fin.keys z.calls) z)

module _ (z : Tables) (sound : SoundTables z) (endpoint : List ℕ) where
  tables-alone : SoundTables (without_legs_of z endpoint)
  tables-alone = left_calls endpoint (fin.keys z.calls) z sound

  -- it left all its calls, and its registration went
  pub tables-without_endpoint : SoundTables (without_endpoint z endpoint)
  tables-without_endpoint =
      let left = without_legs_of z endpoint in
      subst (λ (live : Live). SoundTables (with_live left (fin.remove live endpoint)))
      (endpoints_stay z endpoint)
      (with_endpoints left tables-alone (fin.remove left.live endpoint)
      (roll-went (roll_of left) (roll-sound left tables-alone) endpoint)
      (legs-remove left.live left.calls endpoint (tables-alone).legs
      (legs_left endpoint (λ leg. Unit {0}) (IsOther endpoint) (λ leg other any. other) z.calls
      left.calls (over_all endpoint z) (λ key call there k d below. tt))))

  -- it left all its calls, and stays registered
  pub tables-without_silent : SoundTables (without_silent z endpoint)
  tables-without_silent =
      let left = without_legs_of z endpoint in
      subst (λ (live : Live). SoundTables (with_live left (update live endpoint after_calm)))
      (endpoints_stay z endpoint) (tables-calm left tables-alone endpoint)
