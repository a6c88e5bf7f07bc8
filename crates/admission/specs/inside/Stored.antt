-- How the calls are stored.
use Rattle.std.specs.Prelude.{◌≡◌, ◌≤◌, ℕ, List, Some, length}
use Rattle.std.specs.FinMap as map
use Rattle.indexmap.specs.IndexMap.{IndexMap, get, spare, IsUnique, Updates}
use Rattle.keyed.specs.Places.{AreApart, row_in}
use Rattle.ras_module.specs.CallKeys.{same_call_key}
use Rattle.ras_module.specs.declared.call_key.CallKey.{CallKey}
use Rattle.admission.specs.declared.call.Call.{Call}
use Rattle.admission.specs.declared.table.TheConstants.Calls as calls_table
use Rattle.admission.specs.Calls.{EachCall, IsCall, OpenCalls, key_of, open_calls_of}
use Rattle.admission.specs.Legs.{without_leg}

abbrev pub call_of : CallKey × Call → Call
call_of e = e.1

-- this call is open under its key
abbrev pub IsIn : OpenCalls → CallKey × Call → Type 0
IsIn calls e = map.get calls (key_of e) ≡ Some (call_of e)

-- no two entries share a key, there are no more than there may be, and each has a call
pub record AreStored {S : Type 0} (calls : IndexMap CallKey Call S) (most : ℕ) : Type 0 where
  pub each : EachCall IsCall (open_calls_of calls.entries)
  pub apart : AreApart key_of (row_in calls.entries)
  pub few : length calls.entries ≤ most
  pub most_few : most ≤ calls_table.MOST

-- the call with only the legs of other endpoints
abbrev pub with_legs_but : List ℕ → Call → Call
with_legs_but endpoint call = record call { legs = without_leg call.legs endpoint }

-- the call under this key is changed, if there is one, and no memory is taken
pub record Rewrites {S : Type 0} (change : Call → Call) (old new : IndexMap CallKey Call S)
    (key : CallKey) : Type 0 where
  pub updates : (call : Call) → get same_call_key old key ≡ Some call
      → Updates same_call_key old new key (Some (change call))
  pub unique : IsUnique same_call_key new
  pub same_length : length new.entries ≡ length old.entries
  pub same_room : spare new ≡ spare old
