-- What a request adds to the bandwidth in use.
use Rattle.std.proofs.Common.{◌≡◌, ◌≤◌, ◌+◌, ◌-◌, ℕ, Bool, true, false, List, [], ◌∷◌, refl}
use Rattle.std.proofs.Common.{ap, length, Some, None, arith}
use Rattle.std.specs.Prelude.{Option, IfSome, ◌==◌, nat_le, nat_lt, if◌then◌else◌, min}
use Rattle.std.specs.List.{fold}
use Rattle.std.specs.FinMap as fin
use Rattle.std.specs.FinMap.{get, len}
use Rattle.std.proofs.lemmas.Bool.Decides.{nat_tests}
use Rattle.keyed.proofs.Maps.{remove_absent}
use Rattle.ras_module.specs.declared.address.Address.{Address}
use Rattle.ras_module.specs.declared.alias.Alias.{Alias}
use Rattle.ras_module.specs.declared.call_key.CallKey.{CallKey}
use Rattle.ras_module.proofs.CallKeyOrder.{call_key_cmp_total, call_key_cmp-IsAntisymmetric}
use Rattle.ras_module.specs.declared.request.AdmissionRequest.{AdmissionRequest}
use Rattle.ras_module.specs.declared.request.BandwidthRequest.{BandwidthRequest}
use Rattle.ras_module.specs.declared.request.DisengageRequest.{DisengageRequest}
use Rattle.ras_module.specs.declared.request.RegistrationRequest.{RegistrationRequest}
use Rattle.ras_module.specs.declared.request.Request.{Request}
use Rattle.ras_module.specs.declared.request.Request.TheVariants.{Grq, Rrq, Urq, Arq, Brq, Drq, Irr}
use Rattle.ras_module.specs.Aliases.{without_doubles}
use Rattle.registrations.specs.declared.registration.Registration.{Registration}
use Rattle.registrations.specs.Registry.{at_address}
use Rattle.registrations.specs.Agreement.{registered_elsewhere}
use Rattle.admission.specs.declared.call.Call.{Call}
use Rattle.admission.specs.declared.leg.Leg.{Leg}
use Rattle.admission.specs.Calls.{OpenCalls, after_leave, in_use, leg_at, legs_of}
use Rattle.admission.specs.Legs.{has_other, leg_of}
use Rattle.admission.proofs.Soundness.{in_use-open, in_use-join, in_use-set_units, in_use-left}
use Rattle.admission.proofs.Soundness.{in_use-ended}
use Rattle.zone_config.specs.Networks.{pool_of}
use Rattle.zone_tables.specs.declared.entry.Entry.{Entry}
use Rattle.zone_tables.specs.Tables.{Tables}
use Rattle.zone_tables.specs.Disengaging.{without_leg_of, without_legs_of}
use Rattle.zone_tables.proofs.Departing.{settings_stay}
use Rattle.ras_requests.specs.Plans.{Plan, Settled, Naming, Asking, hearing}
use Rattle.ras_requests.specs.Grq.{is_foreign}
use Rattle.ras_requests.specs.Rrq.{entering, full_registration, has_moved, keep_alive, named}
use Rattle.ras_requests.specs.Rrq.{registration, unless_held}
use Rattle.ras_requests.specs.Urq.{departure, leaving}
use Rattle.ras_requests.specs.Arq.{admission_of, destination, leg_told, making}
use Rattle.ras_requests.specs.Brq.{bandwidth_of, least_units, lowering, raising, resizing, staying}
use Rattle.ras_requests.specs.Brq.{units_left, wanted}
use Rattle.ras_requests.specs.Drq.{disengagement_of}
use Rattle.ras_requests.specs.Standing.{standing, standing_in}
use Rattle.ras_requests.specs.Requests.{plan_of}
use Rattle.ras_machine.specs.declared.job.Occasion.{Occasion}
use Rattle.ras_machine.specs.declared.job.Occasion.TheVariants.{Again, Anew, First}
use Rattle.ras_machine.specs.Keeping.{plan_at}

-- the settings stay, and at most `units` units more are in use
pub record Adds (old new : Tables) (units : ℕ) : Type 0 where
  pub settings : new.config ≡ old.config
  pub units_are : in_use new.calls ≤ in_use old.calls + units

pub nothing : (z : Tables) → Adds z z 0
nothing z = record { settings = refl; units_are = omega arith }

-- however the request is served
abbrev pub AddsBy : Tables → Plan → Type 0
AddsBy z (Settled served) = Adds z served.tables 0
AddsBy z (Naming named) = (id : List ℕ) → Adds z (named id).tables 0
AddsBy z (Asking ask lent refused) =
    ((units : ℕ) → Adds z (lent units).tables units) × Adds z refused.tables 0

-- an endpoint that leaves a call adds nothing
leaves : (calls : OpenCalls) (key : CallKey) (endpoint : List ℕ) (w : Option Call)
    → get calls key ≡ w → in_use (after_leave calls key endpoint) ≤ in_use calls
leaves calls key endpoint None is =
    rw is (omega (
      arith,
      ap in_use (remove_absent call_key_cmp_total call_key_cmp-IsAntisymmetric
          calls key is),
    ))
leaves calls key endpoint (Some call) is = by_others (has_other call.legs endpoint) refl where
  by_others : (b : Bool) → has_other call.legs endpoint ≡ b
      → in_use (after_leave calls key endpoint) ≤ in_use calls
  by_others true other = omega (arith, in_use-left calls key call endpoint is other)
  by_others false last = omega (arith, in_use-ended calls key call endpoint is last)

leaves_all : (endpoint : List ℕ) (keys : List CallKey) (z : Tables)
    → in_use (fold (λ left call. without_leg_of left call endpoint) z keys).calls ≤ in_use z.calls
leaves_all endpoint [] z = omega arith
leaves_all endpoint (key ∷ keys) z =
    omega (
      arith,
      leaves_all endpoint keys (without_leg_of z key endpoint),
      leaves z.calls key endpoint (get z.calls key) refl,
    )

pub has_left : (z : Tables) (endpoint : List ℕ) → Adds z (without_legs_of z endpoint) 0
has_left z endpoint = record {
  settings = settings_stay z endpoint;
  units_are = omega (arith, leaves_all endpoint (fin.keys z.calls) z);
}

at_most : (n most : ℕ) → nat_le n most ≡ true → n ≤ most
at_most n most is = grind (arith, nat_tests)

module _ (z : Tables) where
  either : (b : Bool) (p q : Plan) → AddsBy z p → AddsBy z q → AddsBy z (if b then p else q)
  either true p q hp hq = hp
  either false p q hp hq = hq

  pub same : Adds z z 0
  same = nothing z

  -- RRQ
  module _ (now : ℕ) (q : RegistrationRequest) where
    alive : (w : Option Registration) → AddsBy z (keep_alive z now q w)
    alive None = same
    alive (Some r) =
        either (has_moved r q.ras) _ _ same (record { settings = refl; units_are = omega arith })

    enters : (e : Entry) (w : Option Registration) → AddsBy z (entering z now q e w)
    enters e (Some r) = record { settings = refl; units_are = omega arith }
    enters e None =
        either (len z.live == z.config.endpoints) _ _ same
        (λ id. record { settings = refl; units_are = omega arith })

    held : (e : Entry) (aliases : List Alias) → AddsBy z (unless_held z now q e aliases)
    held e [] = enters e (at_address z.live e.call_signal)
    held e (alias ∷ aliases) = same

    full : (call_signal ras : Option Address) (aliases : List Alias)
        → AddsBy z (full_registration z now q call_signal ras aliases)
    full None ras aliases = same
    full (Some call_signal) None aliases = same
    full (Some call_signal) (Some ras) aliases =
        either (nat_lt 32 (length aliases)) _ _ same
        (held (record { call_signal = call_signal; ras = ras; aliases = aliases })
        (registered_elsewhere z.live call_signal aliases))

    registers : AddsBy z (registration z now q)
    registers =
        either (is_foreign z q.gatekeeper) _ _ same
        (either q.keep_alive _ _ (alive (named z q.endpoint))
        (full q.call_signal q.ras (without_doubles q.aliases)))

  -- URQ
  departs : (seq : ℕ) (w : Option Registration) → AddsBy z (departure z seq w)
  departs seq None = same
  departs seq (Some r) =
      either (nat_lt 0 (legs_of z.calls r.identifier)) _ _ same
      (record { settings = refl; units_are = omega arith })

  -- DRQ
  disengages : (q : DisengageRequest) (w : Option Registration) (leg : Option Leg)
      → AddsBy z (disengagement_of z q w leg)
  disengages q None leg = same
  disengages q (Some r) None = same
  disengages q (Some r) (Some leg) = record {
    settings = refl;
    units_are = omega (arith, leaves z.calls q.call q.endpoint (get z.calls q.call) refl);
  }

  -- ARQ
  pub makes : (q : AdmissionRequest) (pool : ℕ) (told : Address) → get z.calls q.call ≡ None
      → AddsBy z (making z q pool told)
  makes q pool told none =
      either (len z.calls == z.config.calls) _ _ same
      (either (wanted z q.asked == 0) _ _
      (record {
        settings = refl;
        units_are = omega (
          arith,
          in_use-open z.calls q.call pool 0
              (leg_told q told) none,
        );
      })
      (either (units_left z == 0) _ _ same (
        (λ units. record {
          settings = refl;
          units_are = omega
              (arith, in_use-open z.calls q.call pool units (leg_told q told) none);
        }),
        same,
      )))

  admits : (q : AdmissionRequest) (w : Option Registration) (call : Option Call)
      (told : Option Address) → get z.calls q.call ≡ call
      → AddsBy z (admission_of z q w (standing call q.endpoint) told)
  admits q None call told is = same
  admits q (Some r) None None is = same
  admits q (Some r) None (Some told) is =
      makes q (pool_of z.config.networks r.call_signal.ip) told is
  admits q (Some r) (Some call) told is = by_leg (leg_of call.legs q.endpoint) told where
    by_leg : (w : Option Leg) (told : Option Address)
        → AddsBy z (admission_of z q (Some r) (standing_in call w) told)
    by_leg (Some leg) told = same
    by_leg None None = same
    by_leg None (Some told) =
        either (length call.legs == 1) _ _
        (record {
          settings = refl;
          units_are = omega (
            arith,
            in_use-join z.calls q.call call
                (leg_told q told) is,
          );
        })
        same

  -- BRQ
  raises : (q : BandwidthRequest) (call : Call) → get z.calls q.call ≡ Some call
      → AddsBy z (if units_left z == 0 then Settled (staying z q call)
      else Asking (record {
        pool = call.pool;
        units = min (wanted z q.asked - call.units) (units_left z);
        least = least_units z (wanted z q.asked) - call.units;
      })
      (raising z q call) (staying z q call))
  raises q call is =
      either (units_left z == 0) _ _ same (
        (λ units. record {
          settings = refl;
          units_are = omega (arith, in_use-set_units z.calls q.call call (call.units + units) is);
        }),
        same,
      )

  lowers : (q : BandwidthRequest) (call : Call) → get z.calls q.call ≡ Some call
      → wanted z q.asked ≤ call.units → Adds z (lowering z q call (wanted z q.asked)).tables 0
  lowers q call is few = record {
    settings = refl;
    units_are = omega (arith, in_use-set_units z.calls q.call call (wanted z q.asked) is, few);
  }

  resizes : (q : BandwidthRequest) (call : Call) → get z.calls q.call ≡ Some call
      → AddsBy z (resizing z q call)
  resizes q call is = by_test (nat_le (wanted z q.asked) call.units) refl where
    by_test : (b : Bool) → nat_le (wanted z q.asked) call.units ≡ b
        → AddsBy z (if b then Settled (lowering z q call (wanted z q.asked))
        else if units_left z == 0 then Settled (staying z q call)
        else Asking (record {
          pool = call.pool;
          units = min (wanted z q.asked - call.units) (units_left z);
          least = least_units z (wanted z q.asked) - call.units;
        })
        (raising z q call) (staying z q call))
    by_test true few = lowers q call is (at_most (wanted z q.asked) call.units few)
    by_test false few = raises q call is

  bounds : (q : BandwidthRequest) (w : Option Registration) (call : Option Call)
      → get z.calls q.call ≡ call → AddsBy z (bandwidth_of z q w (standing call q.endpoint))
  bounds q None call is = same
  bounds q (Some r) None is = same
  bounds q (Some r) (Some call) is = by_leg (leg_of call.legs q.endpoint) where
    by_leg : (w : Option Leg) → AddsBy z (bandwidth_of z q (Some r) (standing_in call w))
    by_leg None = same
    by_leg (Some leg) = resizes q call is

  pub plans : (now : ℕ) (request : Request) → IfSome (plan_of z now request) (AddsBy z)
  plans now (Grq q) = same
  plans now (Rrq q) = registers now q
  plans now (Urq q) = departs q.seq (leaving z q.endpoint q.call_signal)
  plans now (Arq q) =
      let caller = get z.live q.endpoint in
      admits q caller (get z.calls q.call) (destination z q caller) refl
  plans now (Brq q) = bounds q (get z.live q.endpoint) (get z.calls q.call) refl
  plans now (Drq q) = disengages q (get z.live q.endpoint) (leg_at z.calls q.call q.endpoint)
  plans now (Irr q) = tt

  -- that its endpoint was heard changes none of this
  heard_too : (now : ℕ) (endpoint : Option (List ℕ)) (plan : Plan) → AddsBy z plan
      → AddsBy z (hearing now endpoint plan)
  heard_too now None (Settled served) is = is
  heard_too now (Some id) (Settled served) is = record {
    settings = is.settings;
    units_are = is.units_are;
  }
  heard_too now None (Naming named) is = is
  heard_too now (Some id) (Naming named) is =
      λ n. record { settings = (is n).settings; units_are = (is n).units_are }
  heard_too now None (Asking ask lent refused) is = is
  heard_too now (Some id) (Asking ask lent refused) is = (
    (λ n. record { settings = (is.0 n).settings; units_are = (is.0 n).units_are }),
    record { settings = is.1.settings; units_are = is.1.units_are },
  )

  pub plans_at : (occasion : Occasion) (now : ℕ) (endpoint : Option (List ℕ)) (plan : Plan)
      → AddsBy z plan → AddsBy z (plan_at occasion now endpoint plan)
  plans_at (First dropped) now endpoint plan is = heard_too now endpoint plan is
  plans_at Anew now endpoint plan is = heard_too now endpoint plan is
  plans_at (Again born left) now endpoint plan is = is
