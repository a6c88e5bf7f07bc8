-- Admission of calls (H.323, 7.2.4; H.225.0: ARQ, ACF, ARJ). Each case applies if none above it
-- does.
use Rattle.std.specs.Prelude.{ℕ, ◌==◌, min, length, Option, None, Some, if◌then◌else◌}
use Rattle.std.specs.FinMap.{get, insert, len}
use Rattle.keyed.specs.Maps.{update}
use Rattle.ras_module.specs.declared.address.Address.{Address}
use Rattle.ras_module.specs.declared.reason.AdmissionRejectReason.{AdmissionRejectReason}
use Rattle.ras_module.specs.declared.reason.AdmissionRejectReason.TheVariants as reject
use reject.{CalledPartyNotRegistered, RequestDenied, InvalidEndpointIdentifier, ResourceUnavailable}
use Rattle.ras_module.specs.declared.reply.Reply.TheVariants.{Acf, Arj}
use Rattle.ras_module.specs.declared.request.AdmissionRequest.{AdmissionRequest}
use Rattle.zone_tables.specs.Translation.{translation}
use Rattle.registrations.specs.declared.registration.Registration.{Registration}
use Rattle.admission.specs.declared.call.Call.{Call}
use Rattle.admission.specs.declared.leg.Leg.{Leg}
use Rattle.admission.specs.Calls.{new_call, with_leg}
use Rattle.zone_tables.specs.Tables.{Tables, with_calls}
use Rattle.zone_config.specs.Networks.{pool_of}
use Rattle.ras_requests.specs.Standing.{Standing, NoCall, NoLeg, HasLeg, standing}
use Rattle.ras_requests.specs.Brq.{least_units, units_left, wanted}
use Rattle.ras_requests.specs.Plans.{Served, Plan, Settled, Asking, unchanged}

-- address translation: the endpoint that answers a call is told its own address; the one that makes
-- a call is told the address of the first alias that is registered, else the address that it gave
abbrev pub destination : Tables → AdmissionRequest → Option Registration → Option Address
destination z q None = None
destination z q (Some r) =
    if q.answer then Some r.call_signal else translation z.live q.dest q.dest_address

abbrev pub denial : Tables → AdmissionRequest → AdmissionRejectReason → Served
denial z q reason = unchanged z (Arj q.seq reason)

-- the endpoint's leg, which keeps the address that it is told
abbrev pub leg_told : AdmissionRequest → Address → Leg
leg_told q told = record { endpoint = q.endpoint; told = told }

-- a call opens with these units of a pool
abbrev pub opening_call : Tables → AdmissionRequest → ℕ → Address → ℕ → Served
opening_call z q pool told units = record {
  reply = Acf q.seq units told;
  tables = with_calls z (insert z.calls q.call (new_call pool units (leg_told q told)));
}

-- a new call: it has to have a place; it opens without units if it wants none; else the zone has
-- to have units left, and the pool that serves the endpoint is asked, which has to lend the least
abbrev pub making : Tables → AdmissionRequest → ℕ → Address → Plan
making z q pool told =
    if len z.calls == z.config.calls then Settled (denial z q ResourceUnavailable)
    else if wanted z q.asked == 0 then Settled (opening_call z q pool told 0)
    else if units_left z == 0 then Settled (denial z q RequestDenied)
    else Asking (record {
      pool = pool;
      units = min (wanted z q.asked) (units_left z);
      least = least_units z (wanted z q.asked);
    })
    (opening_call z q pool told) (denial z q RequestDenied)

-- the second endpoint joins a call, which uses no further units
abbrev pub joining : Tables → AdmissionRequest → Call → Address → Plan
joining z q call told =
    if length call.legs == 1
    then Settled (record {
      reply = Acf q.seq (min q.asked call.units) told;
      tables = with_calls z (update z.calls q.call (with_leg (leg_told q told)));
    })
    else Settled (denial z q ResourceUnavailable)

-- An ARQ: of this endpoint if it is registered, with its standing to the call, and with the address
-- that it is told to call, if there is one. An endpoint that has a leg is told that leg's address
-- again, and the units that it asks for, but no more than the call's.
abbrev pub admission_of : Tables → AdmissionRequest → Option Registration → Standing
    → Option Address → Plan
admission_of z q None standing told = Settled (denial z q InvalidEndpointIdentifier)
admission_of z q (Some r) (HasLeg call leg) told =
    Settled (unchanged z (Acf q.seq (min q.asked call.units) leg.told))
admission_of z q (Some r) (NoLeg call) None = Settled (denial z q CalledPartyNotRegistered)
admission_of z q (Some r) NoCall None = Settled (denial z q CalledPartyNotRegistered)
admission_of z q (Some r) (NoLeg call) (Some told) = joining z q call told
admission_of z q (Some r) NoCall (Some told) =
    making z q (pool_of z.config.networks r.call_signal.ip) told

abbrev pub admission : Tables → AdmissionRequest → Plan
admission z q =
    let caller = get z.live q.endpoint in
    admission_of z q caller (standing (get z.calls q.call) q.endpoint) (destination z q caller)
