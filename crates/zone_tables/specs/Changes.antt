-- What a request may change in the tables of a zone, and when that change can be made.
use Rattle.std.specs.Prelude.{◌≡◌, ◌≢◌, ◌+◌, ◌<◌, ℕ, List, [], length, Option, None, Some, IsSome}
use Rattle.std.specs.Prelude.{IfSome, Bool, true, false}
use Rattle.std.specs.Option.{IsSomeAnd, unwrap_or}
use Rattle.std.specs.FinMap.{get, insert, remove, len}
use Rattle.keyed.specs.Maps.{update}
use Rattle.ras_module.specs.declared.address.Address.{Address}
use Rattle.ras_module.specs.declared.call_key.CallKey.{CallKey}
use Rattle.registrations.specs.declared.registration.Registration.{Registration}
use Rattle.registrations.specs.Registry.{Live, at_address, with_deadline, after_rewrite}
use Rattle.registrations.specs.Agreement.{registered_elsewhere}
use Rattle.admission.specs.declared.call.Call.{Call}
use Rattle.admission.specs.declared.leg.Leg.{Leg}
use Rattle.admission.specs.Calls.{OpenCalls, leg_at, legs_of, new_call, with_leg, with_units}
use Rattle.admission.specs.Calls.{after_leave, freed_by_leave}
use Rattle.admission.specs.Legs.{leg_of}
use Rattle.zone_tables.specs.declared.change.EndpointChange.{EndpointChange}
use Rattle.zone_tables.specs.declared.change.EndpointChange.TheVariants.{Renewal, Rewriting}
use Rattle.zone_tables.specs.declared.change.EndpointChange.TheVariants.{Addition, Removal}
use Rattle.zone_tables.specs.declared.change.CallChange.{CallChange}
use Rattle.zone_tables.specs.declared.change.CallChange.TheVariants.{Opening, Joining, Lowering}
use Rattle.zone_tables.specs.declared.change.CallChange.TheVariants.{Leaving}
use Rattle.zone_tables.specs.declared.change.Change.{Change}
use Rattle.zone_tables.specs.declared.change.Change.TheVariants.{Nothing, Endpoint, Calls}
use Rattle.zone_tables.specs.declared.entry.Entry.{Entry}
use Rattle.pools.specs.declared.interface.Figures.{Figures}
use Rattle.zone_tables.specs.Tables.{Tables, heard_now, identifier_at, with_live}
use Rattle.zone_tables.specs.Parts.{Roll, Usage, usage_of}
use Rattle.zone_tables.specs.Pools.{pools_after_return, pools_after_end}

-- the endpoint that asks is granted a new time to live, the one at an address registers anew, a new
-- one comes, or the one at an address goes
abbrev pub after_endpoint_change : ℕ → Option (List ℕ) → EndpointChange → Live → Live
after_endpoint_change now who (Renewal deadline) live =
    update live (unwrap_or who []) (with_deadline deadline)
after_endpoint_change now who (Rewriting e deadline) live =
    heard_now now (identifier_at live e.call_signal) (update live (identifier_at live e.call_signal)
    (after_rewrite e.ras e.aliases deadline))
after_endpoint_change now who (Addition r) live = insert live r.identifier r
after_endpoint_change now who (Removal address) live = remove live (identifier_at live address)

-- the leg of the endpoint for which a call is changed, which is told this address
abbrev pub leg_with : List ℕ → Address → Leg
leg_with id told = record { endpoint = id; told = told }

-- the calls after a change for an endpoint: it opens one without units, joins one, keeps fewer
-- units for one, or leaves one
abbrev pub calls_after : List ℕ → CallChange → OpenCalls → OpenCalls
calls_after id (Opening key pool told) calls =
    insert calls key (new_call pool 0 (leg_with id told))
calls_after id (Joining key told) calls = update calls key (with_leg (leg_with id told))
calls_after id (Lowering key units pool back) calls = update calls key (with_units units)
calls_after id (Leaving key) calls = after_leave calls key id

-- the pools after it: what is no longer used goes back
abbrev pub pools_after : List ℕ → CallChange → OpenCalls → List Figures → List Figures
pools_after id (Opening key pool told) calls pools = pools
pools_after id (Joining key told) calls pools = pools
pools_after id (Lowering key units pool back) calls pools = pools_after_return pools pool back
pools_after id (Leaving key) calls pools =
    pools_after_end pools (freed_by_leave calls key id)

-- the tables after what a request changes: who asks is the endpoint that it names
abbrev pub after_change : ℕ → Option (List ℕ) → Change → Tables → Tables
after_change now who Nothing z = z
after_change now who (Endpoint change) z =
    with_live z (after_endpoint_change now who change z.live)
after_change now who (Calls change) z = record z {
  calls = calls_after (unwrap_or who []) change z.calls;
  pools = pools_after (unwrap_or who []) change z.calls z.pools;
}

-- Whether units may come back to a pool: a call keeps fewer of them, or is left. No other change
-- touches what is lent.
abbrev pub may_return_units_of_call : CallChange → Bool
may_return_units_of_call (Opening key pool told) = false
may_return_units_of_call (Joining key told) = false
may_return_units_of_call (Lowering key units pool back) = true
may_return_units_of_call (Leaving key) = true

abbrev pub may_return_units : Change → Bool
may_return_units Nothing = false
may_return_units (Endpoint change) = false
may_return_units (Calls change) = may_return_units_of_call change

-- a registration may be added: its identifier and its address are free, nobody holds its aliases,
-- and there is a place for it
pub record IsAddable (roll : Roll) (r : Registration) : Type 0 where
  pub identifier : get roll.live r.identifier ≡ None
  pub address : at_address roll.live r.call_signal ≡ None
  pub aliases : registered_elsewhere roll.live r.call_signal r.aliases ≡ []
  pub place : len roll.live ≢ roll.most

-- the endpoint with this call signal address has this identifier, and nobody else holds the aliases
pub record IsRewritable (roll : Roll) (id : List ℕ) (e : Entry) : Type 0 where
  pub old : Registration
  pub found : at_address roll.live e.call_signal ≡ Some old
  pub identifier : old.identifier ≡ id
  pub aliases : registered_elsewhere roll.live e.call_signal e.aliases ≡ []

abbrev pub IsEndpointChange : Roll → Option (List ℕ) → EndpointChange → Type 0
IsEndpointChange roll who (Renewal deadline) = IsSomeAnd who (λ id. IsSome (get roll.live id))
IsEndpointChange roll who (Rewriting e deadline) =
    IsRewritable roll (identifier_at roll.live e.call_signal) e
IsEndpointChange roll who (Addition r) = IsAddable roll r
IsEndpointChange roll who (Removal address) = IsSome (at_address roll.live address)

-- a call may be opened: there is none under its key, and there are a place and a pool for it
pub record IsOpenable (u : Usage) (key : CallKey) (pool : ℕ) : Type 0 where
  pub absent : get u.calls key ≡ None
  pub place : len u.calls ≢ u.most
  pub exists : pool < length u.pools

-- an endpoint may join a call: it has one leg, of another endpoint
pub record IsJoinable (calls : OpenCalls) (key : CallKey) (leg : Leg) : Type 0 where
  pub call : Call
  pub there : get calls key ≡ Some call
  pub one : length call.legs ≡ 1
  pub other : leg_of call.legs leg.endpoint ≡ None

-- a call may keep these units: it has the rest from this pool, too
pub record IsLowerable (calls : OpenCalls) (key : CallKey) (units pool back : ℕ) : Type 0 where
  pub call : Call
  pub there : get calls key ≡ Some call
  pub pool_is : call.pool ≡ pool
  pub back_is : call.units ≡ units + back

abbrev pub IsCallChange : Usage → List ℕ → CallChange → Type 0
IsCallChange u id (Opening key pool told) = IsOpenable u key pool
IsCallChange u id (Joining key told) = IsJoinable u.calls key (leg_with id told)
IsCallChange u id (Lowering key units pool back) = IsLowerable u.calls key units pool back
IsCallChange u id (Leaving key) = IsSome (leg_at u.calls key id)

-- the leg that a change adds
abbrev pub leg_added : List ℕ → CallChange → Option Leg
leg_added id (Opening key pool told) = Some (leg_with id told)
leg_added id (Joining key told) = Some (leg_with id told)
leg_added id (Lowering key units pool back) = None
leg_added id (Leaving key) = None

abbrev pub IsRegistered : Live → Leg → Type 0
IsRegistered live leg = IsSome (get live leg.endpoint)

-- an endpoint that is removed takes part in no call
abbrev pub IsFree : Live → OpenCalls → EndpointChange → Type 0
IsFree live calls (Renewal deadline) = Unit {0}
IsFree live calls (Rewriting e deadline) = Unit {0}
IsFree live calls (Addition r) = Unit {0}
IsFree live calls (Removal address) = legs_of calls (identifier_at live address) ≡ 0

abbrev pub roll_of : Tables → Roll
roll_of z = record { live = z.live; most = z.config.endpoints }

-- a change of the calls can be made for an endpoint, and each leg's endpoint stays registered
abbrev pub IsPossibleFor : Tables → List ℕ → CallChange → Type 0
IsPossibleFor z id change =
    IsCallChange (usage_of z) id change × IfSome (leg_added id change) (IsRegistered z.live)

-- A change can be made to the endpoints, or for whoever asks to the calls.
abbrev pub IsPossible : Tables → Option (List ℕ) → Change → Type 0
IsPossible z who Nothing = Unit {0}
IsPossible z who (Endpoint change) =
    IsEndpointChange (roll_of z) who change × IsFree z.live z.calls change
IsPossible z who (Calls change) = IsSome who × IsPossibleFor z (unwrap_or who []) change

-- only a call that opens may need memory among the calls
abbrev pub OpensCall : CallChange → Type 0
OpensCall (Opening key pool told) = Unit {0}
OpensCall other = ⊥

-- and only a registration in full among the endpoints: its aliases are entered
abbrev pub RegistersInFull : EndpointChange → Type 0
RegistersInFull (Rewriting e deadline) = Unit {0}
RegistersInFull (Addition r) = Unit {0}
RegistersInFull other = ⊥

-- so a change for which memory may be asked
abbrev pub TakesMemory : Change → Type 0
TakesMemory Nothing = ⊥
TakesMemory (Endpoint change) = RegistersInFull change
TakesMemory (Calls change) = OpensCall change

-- the tables after an endpoint was heard
abbrev pub heard : Tables → ℕ → Option (List ℕ) → Tables
heard z now None = z
heard z now (Some id) = with_live z (heard_now now id z.live)
