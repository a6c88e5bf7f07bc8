-- The calls that are open, as a finite map from their keys.
use Rattle.std.specs.Prelude.{◌≡◌, ◌==◌, ◌≤◌, ◌<◌, ◌+◌, ◌^◌, ℕ, Bool, List, [], ◌∷◌, ◌++◌, Option}
use Rattle.std.specs.Prelude.{Some, None, is_some, nat_eq, if◌then◌else◌, option_and_then, All}
use Rattle.std.specs.Cmp.Lexicographic.{pointwise}
use Rattle.std.specs.Ordering.{on, eq_of_both}
use Rattle.std.specs.FinMap.{FinMap, get, insert, remove, len, from_entries}
use Rattle.keyed.specs.Maps.{total}
use Rattle.keyed.specs.Places.{AreApart, row_in}
use Rattle.ras_module.specs.CallKeys.{call_key_cmp}
use Rattle.ras_module.specs.declared.call_key.CallKey.{CallKey}
use Rattle.admission.specs.declared.call.Call.{Call}
use Rattle.admission.specs.declared.leg.Leg.{Leg}
use Rattle.admission.specs.declared.table.TheConstants.Calls as calls_table
use Rattle.admission.specs.Legs.{AreLegs, leg_of, same_leg, without_leg}

-- what is known of each call
abbrev pub OpenCalls : Type 0
OpenCalls = FinMap call_key_cmp Call

-- the calls, the most that there may be, how many more can be opened so that no memory is taken for
-- them, and the order in which they are numbered
pub record CallTable : Type 0 where
  pub calls : OpenCalls
  pub most : ℕ
  pub room : ℕ
  pub order : List (CallKey × Call)

abbrev pub key_of : CallKey × Call → CallKey
key_of entry = entry.0

abbrev pub open_calls_of : List (CallKey × Call) → OpenCalls
open_calls_of entries = from_entries entries

-- calls are compared by their pool, their units and their legs
abbrev pub same_call : Call → Call → Bool
same_call =
    eq_of_both (eq_of_both (on (λ call. call.pool) ◌==◌) (on (λ call. call.units) ◌==◌))
    (on (λ call. call.legs) (pointwise same_leg))

-- and in a list by their key too
abbrev pub same_entry : CallKey × Call → CallKey × Call → Bool
same_entry =
    eq_of_both (on (λ entry. entry.0.octets) (pointwise nat_eq)) (on (λ entry. entry.1) same_call)

-- bandwidth in use: the sum of the units of all calls
abbrev pub units_of : Call → ℕ
units_of call = call.units

abbrev pub in_use : OpenCalls → ℕ
in_use calls = total units_of calls

-- bandwidth in use of one pool: the sum over the calls whose units it lent
abbrev pub units_from : ℕ → Call → ℕ
units_from pool call = if nat_eq call.pool pool then call.units else 0

abbrev pub in_use_of : OpenCalls → ℕ → ℕ
in_use_of calls pool = total (units_from pool) calls

-- the legs of a call, or none if there is no call
abbrev pub legs_in : Option Call → List Leg
legs_in None = []
legs_in (Some call) = call.legs

-- the leg of an endpoint in the call with this key
abbrev pub leg_at : OpenCalls → CallKey → List ℕ → Option Leg
leg_at calls key endpoint = leg_of (legs_in (get calls key)) endpoint

-- the endpoint takes part in the call
abbrev pub has_leg : List ℕ → Call → Bool
has_leg endpoint call = is_some (leg_of call.legs endpoint)

-- in how many calls an endpoint takes part
abbrev pub leg_count : List ℕ → Call → ℕ
leg_count endpoint call = if has_leg endpoint call then 1 else 0

abbrev pub legs_of : OpenCalls → List ℕ → ℕ
legs_of calls endpoint = total (leg_count endpoint) calls

-- no call has a leg of this endpoint
abbrev pub IsInNoCall : OpenCalls → List ℕ → Type 0
IsInNoCall calls endpoint = (key : CallKey) → leg_at calls key endpoint ≡ None

-- a call as it opens
abbrev pub new_call : ℕ → ℕ → Leg → Call
new_call pool units leg = record { pool = pool; units = units; legs = leg ∷ [] }

-- a second endpoint joined it, which uses no further units
abbrev pub with_leg : Leg → Call → Call
with_leg leg call = record call { legs = call.legs ++ leg ∷ [] }

-- its bandwidth was changed
abbrev pub with_units : ℕ → Call → Call
with_units units call = record call { units = units }

-- the call with only these legs; without any it ends
abbrev pub with_legs : List Leg → Call → Option Call
with_legs [] call = None
with_legs (leg ∷ legs) call = Some (record call { legs = leg ∷ legs })

-- what is left of a call when an endpoint leaves it
abbrev pub rest_of_call : List ℕ → Call → Option Call
rest_of_call endpoint call = with_legs (without_leg call.legs endpoint) call

-- the calls, if this is what stands under the key
abbrev pub put_or_remove : OpenCalls → CallKey → Option Call → OpenCalls
put_or_remove calls key None = remove calls key
put_or_remove calls key (Some call) = insert calls key call

-- an endpoint left a call
abbrev pub after_leave : OpenCalls → CallKey → List ℕ → OpenCalls
after_leave calls key endpoint =
    put_or_remove calls key (option_and_then (rest_of_call endpoint) (get calls key))

-- the pool and the units of a call, if no leg is left after this endpoint's
abbrev pub freed_by : List ℕ → Call → Option (ℕ × ℕ)
freed_by endpoint call =
    if is_some (rest_of_call endpoint call) then None else Some (call.pool, call.units)

abbrev pub freed_by_leave : OpenCalls → CallKey → List ℕ → Option (ℕ × ℕ)
freed_by_leave calls key endpoint = option_and_then (freed_by endpoint) (get calls key)

-- a call has one or two legs, of different endpoints, and its units are a BandWidth (H.225.0)
pub record IsCall (call : Call) : Type 0 where
  pub legs : AreLegs call.legs
  pub units : call.units < 2 ^ 32

-- this holds of each call
abbrev pub EachCall : (Call → Type 0) → OpenCalls → Type 0
EachCall P calls = (key : CallKey) (call : Call) → get calls key ≡ Some call → P call

-- this holds of each leg of each call
abbrev pub EachLeg : (Leg → Type 0) → OpenCalls → Type 0
EachLeg P calls = EachCall (λ call. All P call.legs) calls

-- what holds of every table
pub record IsConsistent (t : CallTable) : Type 0 where
  pub each : EachCall IsCall t.calls
  pub few : len t.calls ≤ t.most
  pub most : t.most ≤ calls_table.MOST

-- all calls are numbered, each once
pub record AreNumbered (t : CallTable) : Type 0 where
  pub all : open_calls_of t.order ≡ t.calls
  pub once : AreApart key_of (row_in t.order)

-- the table has the same calls, in the same order, and no less room
pub record Stays (old new : CallTable) : Type 0 where
  pub rows : new.calls ≡ old.calls
  pub most : new.most ≡ old.most
  pub order : new.order ≡ old.order
  pub room : old.room ≤ new.room

-- after a change that takes no memory and no room, the table has these
pub record Becomes (old new : CallTable) (calls : OpenCalls) : Type 0 where
  pub rows : new.calls ≡ calls
  pub most : new.most ≡ old.most
  pub room : old.room ≤ new.room
  pub sound : IsConsistent new

-- after one more call was opened, the table has these
pub record Adds (old new : CallTable) (calls : OpenCalls) : Type 0 where
  pub rows : new.calls ≡ calls
  pub most : new.most ≡ old.most
  pub room : old.room ≤ new.room + 1
  pub sound : IsConsistent new
