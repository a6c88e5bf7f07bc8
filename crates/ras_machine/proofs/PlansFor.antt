-- Plans of requests: who may ask a pool, and that the settings stay.
use Rattle.std.proofs.Common.{◌≡◌, ℕ, Bool, true, false, List, [], ◌∷◌, refl, length, Some, None}
use Rattle.std.specs.Prelude.{Option, IfSome, ◌==◌, nat_le, nat_lt, if◌then◌else◌}
use Rattle.std.specs.FinMap.{get, len}
use Rattle.ras_module.specs.declared.address.Address.{Address}
use Rattle.ras_module.specs.declared.alias.Alias.{Alias}
use Rattle.ras_module.specs.declared.request.AdmissionRequest.{AdmissionRequest}
use Rattle.ras_module.specs.declared.request.BandwidthRequest.{BandwidthRequest}
use Rattle.ras_module.specs.declared.request.DisengageRequest.{DisengageRequest}
use Rattle.ras_module.specs.declared.request.RegistrationRequest.{RegistrationRequest}
use Rattle.ras_module.specs.declared.request.Request.{Request}
use Rattle.ras_module.specs.declared.request.Request.TheVariants.{Grq, Rrq, Urq, Arq, Brq, Drq, Irr}
use Rattle.ras_module.specs.Aliases.{without_doubles}
use Rattle.registrations.specs.declared.registration.Registration.{Registration}
use Rattle.registrations.specs.Registry.{at_address}
use Rattle.registrations.specs.Agreement.{registered_elsewhere}
use Rattle.admission.specs.declared.call.Call.{Call}
use Rattle.admission.specs.declared.leg.Leg.{Leg}
use Rattle.admission.specs.Calls.{leg_at, legs_of}
use Rattle.zone_config.specs.Networks.{pool_of}
use Rattle.zone_tables.specs.declared.entry.Entry.{Entry}
use Rattle.zone_tables.specs.Tables.{Tables}
use Rattle.ras_requests.specs.Plans.{Plan, Settled, Naming, Asking, hearing}
use Rattle.ras_requests.specs.Grq.{is_foreign}
use Rattle.ras_requests.specs.Rrq.{entering, full_registration, has_moved, keep_alive, named}
use Rattle.ras_requests.specs.Rrq.{registration, unless_held}
use Rattle.ras_requests.specs.Urq.{departure, leaving}
use Rattle.ras_requests.specs.Arq.{admission_of, destination, making}
use Rattle.ras_requests.specs.Brq.{bandwidth_of, resizing, units_left, wanted}
use Rattle.ras_requests.specs.Drq.{disengagement_of}
use Rattle.ras_requests.specs.Standing.{Standing, NoCall, NoLeg, HasLeg, standing}
use Rattle.ras_requests.specs.Requests.{plan_of}
use Rattle.ras_machine.specs.Keeping.{plan_at}
use Rattle.ras_machine.specs.declared.job.Occasion.{Occasion}
use Rattle.ras_machine.specs.declared.job.Occasion.TheVariants.{Again, Anew, First}
use Rattle.ras_machine.specs.Soundness.{MayRequestUnits}

-- the settings stay however the request is served, and a pool is asked only for a request that may
abbrev pub IsPlanFor : Tables → Type 0 → Plan → Type 0
IsPlanFor z may (Settled served) = served.tables.config ≡ z.config
IsPlanFor z may (Naming named) = (id : List ℕ) → (named id).tables.config ≡ z.config
IsPlanFor z may (Asking ask lent refused) =
    may × ((units : ℕ) → (lent units).tables.config ≡ z.config)
    × (refused.tables.config ≡ z.config)

module _ (z : Tables) (may : Type 0) where
  either : (b : Bool) (p q : Plan) → IsPlanFor z may p → IsPlanFor z may q
      → IsPlanFor z may (if b then p else q)
  either true p q hp hq = hp
  either false p q hp hq = hq

  -- RRQ
  module _ (now : ℕ) (q : RegistrationRequest) where
    alive : (w : Option Registration) → IsPlanFor z may (keep_alive z now q w)
    alive None = refl
    alive (Some r) = either (has_moved r q.ras) _ _ refl refl

    enters : (e : Entry) (w : Option Registration) → IsPlanFor z may (entering z now q e w)
    enters e (Some r) = refl
    enters e None = either (len z.live == z.config.endpoints) _ _ refl (λ id. refl)

    held : (e : Entry) (aliases : List Alias) → IsPlanFor z may (unless_held z now q e aliases)
    held e [] = enters e (at_address z.live e.call_signal)
    held e (alias ∷ aliases) = refl

    full : (call_signal ras : Option Address) (aliases : List Alias)
        → IsPlanFor z may (full_registration z now q call_signal ras aliases)
    full None ras aliases = refl
    full (Some call_signal) None aliases = refl
    full (Some call_signal) (Some ras) aliases =
        either (nat_lt 32 (length aliases)) _ _ refl
        (held (record { call_signal = call_signal; ras = ras; aliases = aliases })
        (registered_elsewhere z.live call_signal aliases))

    registers : IsPlanFor z may (registration z now q)
    registers =
        either (is_foreign z q.gatekeeper) _ _ refl
        (either q.keep_alive _ _ (alive (named z q.endpoint))
        (full q.call_signal q.ras (without_doubles q.aliases)))

  -- URQ
  departs : (seq : ℕ) (w : Option Registration) → IsPlanFor z may (departure z seq w)
  departs seq None = refl
  departs seq (Some r) = either (nat_lt 0 (legs_of z.calls r.identifier)) _ _ refl refl

  -- DRQ
  disengages : (q : DisengageRequest) (w : Option Registration) (leg : Option Leg)
      → IsPlanFor z may (disengagement_of z q w leg)
  disengages q None leg = refl
  disengages q (Some r) None = refl
  disengages q (Some r) (Some leg) = refl

module _ (z : Tables) (may : Type 0) (h : may) where
  -- ARQ
  makes : (q : AdmissionRequest) (pool : ℕ) (told : Address)
      → IsPlanFor z may (making z q pool told)
  makes q pool told =
      either z may (len z.calls == z.config.calls) _ _ refl
      (either z may (wanted z q.asked == 0) _ _ refl
      (either z may (units_left z == 0) _ _ refl (h, λ units. refl, refl)))

  admits : (q : AdmissionRequest) (w : Option Registration) (stands : Standing)
      (told : Option Address) → IsPlanFor z may (admission_of z q w stands told)
  admits q None stands told = refl
  admits q (Some r) (HasLeg call leg) told = refl
  admits q (Some r) (NoLeg call) None = refl
  admits q (Some r) NoCall None = refl
  admits q (Some r) (NoLeg call) (Some told) = either z may (length call.legs == 1) _ _ refl refl
  admits q (Some r) NoCall (Some told) = makes q (pool_of z.config.networks r.call_signal.ip) told

  -- BRQ
  resizes : (q : BandwidthRequest) (call : Call) → IsPlanFor z may (resizing z q call)
  resizes q call =
      either z may (nat_le (wanted z q.asked) call.units) _ _ refl
      (either z may (units_left z == 0) _ _ refl (h, λ units. refl, refl))

  bounds : (q : BandwidthRequest) (w : Option Registration) (stands : Standing)
      → IsPlanFor z may (bandwidth_of z q w stands)
  bounds q None stands = refl
  bounds q (Some r) NoCall = refl
  bounds q (Some r) (NoLeg call) = refl
  bounds q (Some r) (HasLeg call leg) = resizes q call

-- what a request comes to, if it has a reply
pub is_plan : (z : Tables) (now : ℕ) (request : Request)
    → IfSome (plan_of z now request) (IsPlanFor z (MayRequestUnits request))
is_plan z now (Grq q) = refl
is_plan z now (Rrq q) = registers z ⊥ now q
is_plan z now (Urq q) = departs z ⊥ q.seq (leaving z q.endpoint q.call_signal)
is_plan z now (Arq q) =
    let caller = get z.live q.endpoint in
    admits z (Unit {0}) tt q caller (standing (get z.calls q.call) q.endpoint)
    (destination z q caller)
is_plan z now (Brq q) =
    bounds z (Unit {0}) tt q (get z.live q.endpoint) (standing (get z.calls q.call) q.endpoint)
is_plan z now (Drq q) =
    disengages z ⊥ q (get z.live q.endpoint) (leg_at z.calls q.call q.endpoint)
is_plan z now (Irr q) = tt

-- that its endpoint was heard changes none of this
heard_too : (z : Tables) (may : Type 0) (now : ℕ) (endpoint : Option (List ℕ)) (plan : Plan)
    → IsPlanFor z may plan → IsPlanFor z may (hearing now endpoint plan)
heard_too z may now None (Settled served) is = is
heard_too z may now (Some id) (Settled served) is = is
heard_too z may now None (Naming named) is = is
heard_too z may now (Some id) (Naming named) is = is
heard_too z may now None (Asking ask lent refused) is = is
heard_too z may now (Some id) (Asking ask lent refused) is = is

pub is_plan_at : (z : Tables) (may : Type 0) (occasion : Occasion) (now : ℕ)
    (endpoint : Option (List ℕ)) (plan : Plan)
    → IsPlanFor z may plan → IsPlanFor z may (plan_at occasion now endpoint plan)
is_plan_at z may (First dropped) now endpoint plan is = heard_too z may now endpoint plan is
is_plan_at z may Anew now endpoint plan is = heard_too z may now endpoint plan is
is_plan_at z may (Again born left) now endpoint plan is = is
