-- What a pool is asked for, when it may be asked, and what follows from its answer.
use Rattle.std.specs.Prelude.{◌≡◌, ◌≢◌, ◌+◌, ◌^◌, ◌<◌, ◌≤◌, ℕ, List, length}
use Rattle.std.specs.Prelude.{Option, None, Some, IsSome}
use Rattle.std.specs.FinMap.{get, insert, len}
use Rattle.keyed.specs.Maps.{update}
use Rattle.admission.specs.declared.call.Call.{Call}
use Rattle.admission.specs.declared.leg.Leg.{Leg}
use Rattle.admission.specs.Calls.{CallTable, OpenCalls, in_use, new_call, with_units}
use Rattle.zone_tables.specs.declared.unit_request.Purpose.{Purpose}
use Rattle.zone_tables.specs.declared.unit_request.Purpose.TheVariants as purpose
use Rattle.zone_tables.specs.declared.unit_request.UnitRequest.{UnitRequest}
use Rattle.pools.specs.declared.interface.Lend.{Lend}
use Rattle.pools.specs.declared.interface.Lend.TheVariants.{Lent, Refused, Wait}
use Rattle.zone_tables.specs.Pools.{RequestedUnits, grant_of}
use Rattle.zone_tables.specs.Parts.{Usage}
use Rattle.zone_tables.specs.Changes.{IsOpenable, leg_with}

-- the units that a request is for, the least that are of use to it, and their pool
abbrev pub units_requested : UnitRequest → RequestedUnits
units_requested q = record { pool = q.pool; units = q.units; least = q.least }

-- the calls if the request of an endpoint gets these units
abbrev pub granted_calls : List ℕ → UnitRequest → Purpose → ℕ → OpenCalls → OpenCalls
granted_calls id q (purpose.Opening told) units calls =
    insert calls q.call (new_call q.pool units (leg_with id told))
granted_calls id q (purpose.Raising had) units calls =
    update calls q.call (with_units (had + units))

-- the calls after an answer
abbrev pub calls_with_grant : List ℕ → UnitRequest → Option ℕ → OpenCalls → OpenCalls
calls_with_grant id q None calls = calls
calls_with_grant id q (Some units) calls = granted_calls id q q.purpose units calls

abbrev pub calls_after_answer : List ℕ → UnitRequest → Lend → OpenCalls → OpenCalls
calls_after_answer id q answer calls = calls_with_grant id q (grant_of q.least answer) calls

-- a call may be lent more by its pool
pub record IsRaisable (u : Usage) (q : UnitRequest) (had : ℕ) : Type 0 where
  pub call : Call
  pub there : get u.calls q.call ≡ Some call
  pub pool_is : call.pool ≡ q.pool
  pub units_are : call.units ≡ had
  pub limit : had + q.units ≤ u.call_limit

abbrev pub IsPurpose : Usage → UnitRequest → Purpose → Type 0
IsPurpose u q (purpose.Opening told) = IsOpenable u q.call q.pool × (q.units ≤ u.call_limit)
IsPurpose u q (purpose.Raising had) = IsRaisable u q had

-- units that were lent may be entered: there is room for one more call, or the call is there
abbrev pub IsGrantable : CallTable → UnitRequest → Purpose → ℕ → Type 0
IsGrantable t q (purpose.Opening told) units =
    (get t.calls q.call ≡ None) × (len t.calls ≢ t.most) × (0 < t.room) × (units < 2 ^ 32)
IsGrantable t q (purpose.Raising had) units =
    IsSome (get t.calls q.call) × (had + units < 2 ^ 32)

abbrev pub IsEnterable : CallTable → UnitRequest → Lend → Type 0
IsEnterable t q (Lent units) = IsGrantable t q q.purpose units
IsEnterable t q Refused = Unit {0}
IsEnterable t q Wait = Unit {0}

-- the request may be put: it is for some units, which the limit of all calls allows
pub record IsUnitRequest (u : Usage) (q : UnitRequest) : Type 0 where
  pub some : 1 ≤ q.units
  pub limit : in_use u.calls + q.units ≤ u.limit
  pub pool : q.pool < length u.pools
  pub purpose : IsPurpose u q q.purpose

-- the leg that a request of an endpoint is for
abbrev pub leg_of_purpose : List ℕ → Purpose → Option Leg
leg_of_purpose id (purpose.Opening told) = Some (leg_with id told)
leg_of_purpose id (purpose.Raising had) = None
