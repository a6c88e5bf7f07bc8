-- Bandwidth of the zone's calls (H.323, 7.2.4; H.225.0: BRQ, BCF, BRJ), in units of 100 bit/s. Each
-- case applies if none above it does.
use Rattle.std.specs.Prelude.{ℕ, ◌+◌, ◌-◌, ◌==◌, nat_le, min, Option, None, Some, if◌then◌else◌}
use Rattle.std.specs.FinMap.{get}
use Rattle.keyed.specs.Maps.{update}
use Rattle.ras_module.specs.declared.reason.BandRejectReason.TheVariants.{NotBound}
use Rattle.ras_module.specs.declared.reason.BandRejectReason.TheVariants.{InvalidConferenceId}
use Rattle.ras_module.specs.declared.reason.BandRejectReason.TheVariants.{InsufficientResources}
use Rattle.ras_module.specs.declared.reply.Reply.TheVariants.{Bcf, Brj}
use Rattle.ras_module.specs.declared.request.BandwidthRequest.{BandwidthRequest}
use Rattle.registrations.specs.declared.registration.Registration.{Registration}
use Rattle.admission.specs.declared.call.Call.{Call}
use Rattle.admission.specs.Calls.{in_use, with_units}
use Rattle.zone_tables.specs.Tables.{Tables, with_calls}
use Rattle.zone_tables.specs.Pools.{pools_after_return}
use Rattle.ras_requests.specs.Standing.{Standing, NoCall, NoLeg, HasLeg, standing}
use Rattle.ras_requests.specs.Plans.{Served, Plan, Settled, Asking, unchanged}

-- the units that the zone has left
abbrev pub units_left : Tables → ℕ
units_left z = z.config.limit - in_use z.calls

-- the units that are asked for, but no more than a call may have
abbrev pub wanted : Tables → ℕ → ℕ
wanted z asked = min asked z.config.call_limit

-- the least units with which a pool's loan may leave a call that wants these
abbrev pub least_units : Tables → ℕ → ℕ
least_units z wanted = min z.config.least_grant wanted

-- a call that needs no more than these units gives the others back
abbrev pub lowering : Tables → BandwidthRequest → Call → ℕ → Served
lowering z q call units = record {
  reply = Bcf q.seq units;
  tables = record z {
    calls = update z.calls q.call (with_units units);
    pools = pools_after_return z.pools call.pool (call.units - units);
  };
}

-- a call that was lent these units more
abbrev pub raising : Tables → BandwidthRequest → Call → ℕ → Served
raising z q call more = record {
  reply = Bcf q.seq (call.units + more);
  tables = with_calls z (update z.calls q.call (with_units (call.units + more)));
}

-- it keeps what it has
abbrev pub staying : Tables → BandwidthRequest → Call → Served
staying z q call = unchanged z (Brj q.seq InsufficientResources call.units)

-- A call that needs no more than it has; one for which no units are left; and one for which
-- its pool is asked: with what the pool lends, the call has to have the least.
abbrev pub resizing : Tables → BandwidthRequest → Call → Plan
resizing z q call =
    if nat_le (wanted z q.asked) call.units then Settled (lowering z q call (wanted z q.asked))
    else if units_left z == 0 then Settled (staying z q call)
    else Asking (record {
      pool = call.pool;
      units = min (wanted z q.asked - call.units) (units_left z);
      least = least_units z (wanted z q.asked) - call.units;
    })
    (raising z q call) (staying z q call)

-- A BRQ: of this endpoint if it is registered, with its standing to the call.
abbrev pub bandwidth_of : Tables → BandwidthRequest → Option Registration → Standing → Plan
bandwidth_of z q None standing = Settled (unchanged z (Brj q.seq NotBound 0))
bandwidth_of z q (Some r) NoCall = Settled (unchanged z (Brj q.seq InvalidConferenceId 0))
bandwidth_of z q (Some r) (NoLeg call) = Settled (unchanged z (Brj q.seq InvalidConferenceId 0))
bandwidth_of z q (Some r) (HasLeg call leg) = resizing z q call

abbrev pub bandwidth : Tables → BandwidthRequest → Plan
bandwidth z q =
    bandwidth_of z q (get z.live q.endpoint) (standing (get z.calls q.call) q.endpoint)
