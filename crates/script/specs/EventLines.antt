-- The lines that are written of events.
use Rattle.std.specs.Prelude.{ℕ, List, ◌++◌, codes}
use Rattle.std.specs.Fmt.{decimal}
use Rattle.hex.specs.Hex.{encode_upper}
use Rattle.pools.specs.declared.pool_spec.PoolSpec.{PoolSpec}
use Rattle.pools.specs.declared.pool_spec.PoolSpec.TheVariants.{Fixed, Step, Paced}
use Rattle.zone_events.specs.declared.event.Event.TheVariants.{Datagram, Turn}
use Rattle.script.specs.declared.event.ScriptEvent.{ScriptEvent}
use Rattle.script.specs.declared.event.ScriptEvent.TheVariants.{Event, Replace}
use Rattle.script.specs.Prints.{address_text}

-- a kind of pool with its numbers
abbrev pub pool_text : PoolSpec → List ℕ
pool_text (Fixed limit) = codes "fixed " ++ decimal limit
pool_text (Step limit step) = codes "step " ++ decimal limit ++ codes " " ++ decimal step
pool_text (Paced limit burst) = codes "paced " ++ decimal limit ++ codes " " ++ decimal burst

-- `at MS from ADDRESS HEX`, `turn MS`, or `replace MS I` and a pool
abbrev pub event_line : ScriptEvent → List ℕ
event_line (Event (Datagram source bytes moment)) =
    codes "at " ++ decimal moment ++ codes " from " ++ address_text source ++ codes " "
    ++ encode_upper bytes ++ codes "\n"
event_line (Event (Turn moment)) = codes "turn " ++ decimal moment ++ codes "\n"
event_line (Replace replacement) =
    codes "replace " ++ decimal replacement.moment ++ codes " " ++ decimal replacement.pool
    ++ codes " " ++ pool_text replacement.fresh ++ codes "\n"
