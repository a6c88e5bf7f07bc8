-- Each request leaves sound tables sound, however it is served.
use Rattle.std.proofs.Common.{◌≡◌, ◌≤◌, ◌<◌, ◌-◌, ◌==◌, ℕ, Bool, true, false, List, []}
use Rattle.std.proofs.Common.{◌∷◌, length, min, refl, ap, Some, None, arith, subst, sym}
use Rattle.std.specs.Prelude.{IfSome, IsSome, Option, if◌then◌else◌, nat_le, nat_lt}
use Rattle.std.specs.FinMap.{get, len}
use Rattle.ras_module.specs.declared.address.Address.{Address}
use Rattle.ras_module.specs.declared.call_key.CallKey.{CallKey}
use Rattle.ras_module.specs.declared.alias.Alias.{Alias}
use Rattle.ras_module.specs.declared.request.AdmissionRequest.{AdmissionRequest}
use Rattle.ras_module.specs.declared.request.BandwidthRequest.{BandwidthRequest}
use Rattle.ras_module.specs.declared.request.DisengageRequest.{DisengageRequest}
use Rattle.ras_module.specs.declared.request.RegistrationRequest.{RegistrationRequest}
use Rattle.ras_module.specs.declared.request.Request.{Request}
use Rattle.ras_module.specs.declared.request.Request.TheVariants.{Grq, Rrq, Urq, Arq}
use Rattle.ras_module.specs.declared.request.Request.TheVariants.{Brq, Drq, Irr}
use Rattle.ras_module.specs.Aliases.{without_doubles}
use Rattle.registrations.specs.declared.registration.Registration.{Registration}
use Rattle.keyed.specs.Maps.{update}
use Rattle.registrations.specs.Registry.{Live, after_rewrite, at_address}
use Rattle.registrations.specs.Agreement.{registered_elsewhere}
use Rattle.admission.specs.declared.call.Call.{Call}
use Rattle.admission.specs.declared.leg.Leg.{Leg}
use Rattle.admission.specs.Calls.{leg_at, legs_of}
use Rattle.admission.specs.Legs.{leg_of}
use Rattle.zone_config.specs.Networks.{pool_of}
use Rattle.zone_tables.specs.declared.change.CallChange.TheVariants.{Opening, Joining, Lowering}
use Rattle.zone_tables.specs.declared.change.Change.{Change}
use Rattle.zone_tables.specs.declared.change.Change.TheVariants.{Endpoint, Calls}
use Rattle.zone_tables.specs.declared.change.EndpointChange.TheVariants.{Addition, Rewriting}
use Rattle.zone_tables.specs.declared.entry.Entry.{Entry}
use Rattle.zone_tables.specs.declared.unit_request.Purpose.TheVariants as purpose
use Rattle.zone_tables.specs.Changes.{IsPossible, after_change}
use Rattle.zone_tables.specs.Tables.{Tables, heard_now, identifier_or_none, with_live}
use Rattle.zone_tables.specs.Disengaging.{without_leg_of}
use Rattle.zone_tables.specs.Soundness.{SoundTables}
use Rattle.zone_tables.proofs.Answered.{is_there}
use Rattle.zone_tables.proofs.ButLent.{counts_same, same_after_change, same_after_end}
use Rattle.zone_tables.proofs.Departing.{same_after_leave}
use Rattle.ras_requests.specs.Grq.{is_foreign}
use Rattle.ras_requests.specs.Rrq.{addition, deadline, entering, full_registration, has_moved}
use Rattle.ras_requests.specs.Rrq.{keep_alive, named, new_registration, registration}
use Rattle.ras_requests.specs.Rrq.{unless_held}
use Rattle.ras_requests.specs.Urq.{departure, leaving}
use Rattle.ras_requests.specs.Arq.{admission_of, destination, making}
use Rattle.ras_requests.specs.Brq.{bandwidth_of, least_units, lowering, resizing}
use Rattle.ras_requests.specs.Brq.{units_left, wanted}
use Rattle.ras_requests.specs.Drq.{disengagement_of}
use Rattle.ras_requests.specs.Plans.{Plan, Naming}
use Rattle.ras_requests.specs.Requests.{plan_of}
use Rattle.ras_requests.specs.Standing.{standing, standing_in}
use Rattle.ras_requests.proofs.Resizing.{RequestsUnits-resizing}
use Rattle.sound_steps.proofs.Serving.{IsSoundAfter, SoundBy, asks, pool_there}
use Rattle.sound_steps.proofs.Tables.{tables-after, tables-left, tables-removed, tables-renewed}
use Rattle.sound_steps.proofs.Tests as tests
use Rattle.sound_steps.proofs.Tests.{above, at_most, differ, equal}

module _ (z : Tables) (sound : SoundTables z) where
  -- one of two plans, by a test
  by_test : (b : Bool) (p q : Plan) → (b ≡ true → SoundBy z p) → (b ≡ false → SoundBy z q)
      → SoundBy z (if b then p else q)
  by_test true p q is other = is refl
  by_test false p q is other = other refl

  -- nothing changes; or what changes may
  still : IsSoundAfter z z
  still = record {
    sound = sound;
    counts = counts_same z.pools z.pools (same_after_end z.pools None);
  }

  -- a change that can be made
  changed : (now : ℕ) (who : Option (List ℕ)) (change : Change) → IsPossible z who change
      → IsSoundAfter z (after_change now who change z)
  changed now who change can = record {
    sound = tables-after z sound now who change can;
    counts = counts_same z.pools (after_change now who change z).pools
        (same_after_change now who change z);
  }

  -- other endpoints, and the pools stay
  relived : (live : Live) → SoundTables (with_live z live) → IsSoundAfter z (with_live z live)
  relived live is = record {
    sound = is;
    counts = counts_same z.pools z.pools (same_after_end z.pools None);
  }

  -- an endpoint leaves a call
  left : (key : CallKey) (endpoint : List ℕ) → IsSoundAfter z (without_leg_of z key endpoint)
  left key endpoint = record {
    sound = tables-left z sound key endpoint;
    counts = counts_same z.pools (without_leg_of z key endpoint).pools
        (same_after_leave endpoint z.calls z.pools key);
  }

  -- RRQ
  module _ (now : ℕ) (q : RegistrationRequest) where
    alive : (w : Option Registration) → SoundBy z (keep_alive z now q w)
    alive None = still
    alive (Some r) =
        by_test (has_moved r q.ras) _ _ (λ moved. still)
        (λ stays. relived _ (tables-renewed z sound r.identifier (deadline z now q)))

    -- a full registration: of an endpoint whose address is known, or of a new one
    enters : (e : Entry) (w : Option Registration) → at_address z.live e.call_signal ≡ w
        → registered_elsewhere z.live e.call_signal e.aliases ≡ []
        → SoundBy z (entering z now q e w)
    enters e (Some r) at none =
        let f = after_rewrite e.ras e.aliases (deadline z now q) in
        subst (λ (w : Option Registration). IsSoundAfter z (with_live z
        (heard_now now (identifier_or_none w) (update z.live (identifier_or_none w) f)))) at
        (changed now None (Endpoint (Rewriting e (deadline z now q))) (
          record {
            old = r;
            found = at;
            identifier = sym (ap identifier_or_none at);
            aliases = none;
          },
          tt,
        ))
    enters e None at none =
        by_test (len z.live == z.config.endpoints) _ (Naming (addition z now q e)) (λ full. still)
        (λ place id unused.
        changed now None (Endpoint (Addition (new_registration z now q e id))) (
          record {
            identifier = unused;
            address = at;
            aliases = none;
            place = differ (len z.live) z.config.endpoints place;
          },
          tt,
        ))

    -- its aliases are held by others, or by nobody else
    held : (e : Entry) (aliases : List Alias)
        → registered_elsewhere z.live e.call_signal e.aliases ≡ aliases
        → SoundBy z (unless_held z now q e aliases)
    held e [] none = enters e (at_address z.live e.call_signal) refl none
    held e (alias ∷ aliases) some = still

    -- it has both addresses, or is refused
    full : (call_signal ras : Option Address) (aliases : List Alias)
        → SoundBy z (full_registration z now q call_signal ras aliases)
    full None ras aliases = still
    full (Some call_signal) None aliases = still
    full (Some call_signal) (Some ras) aliases =
        by_test (nat_lt 32 (length aliases)) _ _ (λ many. still)
        (λ few. held (record { call_signal = call_signal; ras = ras; aliases = aliases })
        (registered_elsewhere z.live call_signal aliases) refl)

    -- so it is of each registration
    registers : SoundBy z (registration z now q)
    registers =
        by_test (is_foreign z q.gatekeeper) _ _ (λ foreign. still)
        (λ own. by_test q.keep_alive _ _
        (λ keeps. alive (named z q.endpoint))
        (λ anew. full q.call_signal q.ras (without_doubles q.aliases)))

  -- URQ
  departs : (seq : ℕ) (w : Option Registration) → SoundBy z (departure z seq w)
  departs seq None = still
  departs seq (Some r) =
      by_test (nat_lt 0 (legs_of z.calls r.identifier)) _ _ (λ busy. still)
      (λ free. relived _ (tables-removed z sound r.identifier
      (tests.none (legs_of z.calls r.identifier) free)))

  -- DRQ
  disengages : (q : DisengageRequest) (w : Option Registration) (leg : Option Leg)
      → SoundBy z (disengagement_of z q w leg)
  disengages q None leg = still
  disengages q (Some r) None = still
  disengages q (Some r) (Some leg) = left q.call q.endpoint

  -- ARQ
  makes : (q : AdmissionRequest) (pool : ℕ) (told : Address) → get z.calls q.call ≡ None
      → IsSome (get z.live q.endpoint) → pool < length z.pools → SoundBy z (making z q pool told)
  makes q pool told none registered there =
      by_test (len z.calls == z.config.calls) _ _ (λ full. still)
      (λ place. by_test (wanted z q.asked == 0) _ _
      (λ nothing. changed 0 (Some q.endpoint) (Calls (Opening q.call pool told)) (
        refl,
        (
          record {
            absent = none;
            place = differ (len z.calls) z.config.calls place;
            exists = there;
          },
          registered,
        ),
      ))
      (λ some. by_test (units_left z == 0) _ _ (λ empty. still)
      (λ left. asks z sound (Arq q) (record {
        call = q.call;
        pool = pool;
        units = min (wanted z q.asked) (units_left z);
        least = least_units z (wanted z q.asked);
        purpose = purpose.Opening told;
      })
      (record {
        some = one_at_least (wanted z q.asked) (units_left z) some left;
        limit = omega (arith, sound.limit);
        pool = there;
        purpose = (
          record {
            absent = none;
            place = differ (len z.calls) z.config.calls place;
            exists = there;
          },
          omega arith,
        );
      }) registered))) where
        one_at_least : (m n : ℕ) → (m == 0) ≡ false → (n == 0) ≡ false → 1 ≤ min m n
        one_at_least m n some left = omega (arith, differ m 0 some, differ n 0 left)

  -- an endpoint that is registered may be told its address again, join a call or open one
  admits : (q : AdmissionRequest) (w : Option Registration) (call : Option Call)
      (told : Option Address) → get z.live q.endpoint ≡ w → get z.calls q.call ≡ call
      → SoundBy z (admission_of z q w (standing call q.endpoint) told)
  admits q None call told live is = still
  admits q (Some r) None None live is = still
  admits q (Some r) None (Some told) live is =
      makes q (pool_of z.config.networks r.call_signal.ip) told is
      (is_there (get z.live q.endpoint) r live)
      (omega (
        arith,
        pool_there z.config.networks r.call_signal.ip (sound.settings).default_pool,
        sound.pools,
      ))
  admits q (Some r) (Some call) told live is = by_leg (leg_of call.legs q.endpoint) refl told where
    by_leg : (w : Option Leg) → leg_of call.legs q.endpoint ≡ w → (told : Option Address)
        → SoundBy z (admission_of z q (Some r) (standing_in call w) told)
    by_leg (Some leg) has told = still
    by_leg None none None = still
    by_leg None none (Some told) =
        by_test (length call.legs == 1) _ _
        (λ one. changed 0 (Some q.endpoint) (Calls (Joining q.call told)) (
          refl,
          (
            record {
              call = call;
              there = is;
              one = equal (length call.legs) 1 one;
              other = none;
            },
            is_there (get z.live q.endpoint) r live,
          ),
        ))
        (λ two. still)

  -- BRQ
  lowers : (q : BandwidthRequest) (call : Call) → get z.calls q.call ≡ Some call
      → wanted z q.asked ≤ call.units
      → IsSoundAfter z (lowering z q call (wanted z q.asked)).tables
  lowers q call is few =
      changed 0 (Some q.endpoint) (Calls (Lowering q.call (wanted z q.asked) call.pool
      (call.units - wanted z q.asked))) (
        refl,
        (record { call = call; there = is; pool_is = refl; back_is = omega (arith, few) }, tt),
      )

  -- a call gives units back, or its pool is asked for more
  resizes : (q : BandwidthRequest) (call : Call) → get z.calls q.call ≡ Some call
      → SoundBy z (resizing z q call)
  resizes q call is =
      by_test (nat_le (wanted z q.asked) call.units) _ _
      (λ few. lowers q call is (at_most (wanted z q.asked) call.units few))
      (λ more. by_test (units_left z == 0) _ _ (λ empty. still)
      (λ left. (let wants : call.units < wanted z q.asked =
      above (wanted z q.asked) call.units more in
      let has : 0 < units_left z = omega (arith, differ (units_left z) 0 left) in
      asks z sound (Brq q) (record {
        call = q.call;
        pool = call.pool;
        units = min (wanted z q.asked - call.units) (units_left z);
        least = least_units z (wanted z q.asked) - call.units;
        purpose = purpose.Raising call.units;
      })
      (RequestsUnits-resizing z q call (wanted z q.asked) (units_left z)
      (min (wanted z q.asked - call.units) (units_left z))
      (least_units z (wanted z q.asked) - call.units) is (sound.call_pools q.call call is)
      sound.limit refl wants refl has refl refl).may tt)))

  -- an endpoint has to have a leg in the call
  bounds : (q : BandwidthRequest) (w : Option Registration) (call : Option Call)
      → get z.calls q.call ≡ call → SoundBy z (bandwidth_of z q w (standing call q.endpoint))
  bounds q None call is = still
  bounds q (Some r) None is = still
  bounds q (Some r) (Some call) is = by_leg (leg_of call.legs q.endpoint) where
    by_leg : (w : Option Leg) → SoundBy z (bandwidth_of z q (Some r) (standing_in call w))
    by_leg None = still
    by_leg (Some leg) = resizes q call is

  -- so it is of each request that has a reply
  pub plan_is_sound : (now : ℕ) (request : Request)
      → IfSome (plan_of z now request) (SoundBy z)
  plan_is_sound now (Grq q) = still
  plan_is_sound now (Rrq q) = registers now q
  plan_is_sound now (Urq q) = departs q.seq (leaving z q.endpoint q.call_signal)
  plan_is_sound now (Arq q) =
      let caller = get z.live q.endpoint in
      admits q caller (get z.calls q.call) (destination z q caller) refl refl
  plan_is_sound now (Brq q) = bounds q (get z.live q.endpoint) (get z.calls q.call) refl
  plan_is_sound now (Drq q) =
      disengages q (get z.live q.endpoint) (leg_at z.calls q.call q.endpoint)
  plan_is_sound now (Irr q) = tt
