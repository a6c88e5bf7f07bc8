-- The calls, with what is counted of them.
use Rattle.std.specs.Prelude.{ℕ}
use Rattle.indexmap.specs.IndexMap.{IndexMap}
use Rattle.ras_module.specs.declared.call_key.CallKey.{CallKey}
use Rattle.admission.specs.declared.call.Call.{Call}
use Rattle.admission.specs.declared.in_use.InUse.{InUse}
use Rattle.admission.specs.Calls.{open_calls_of}
use Rattle.admission.specs.inside.Stored.{AreStored}
use Rattle.admission.specs.inside.Sums.{AreSums}

-- what is kept beside the calls is what is counted over them
pub record AreCounted {S : Type 0} (calls : IndexMap CallKey Call S) (most : ℕ) (kept : InUse)
    : Type 0 where
  pub stored : AreStored calls most
  pub sums : AreSums kept (open_calls_of calls.entries)
