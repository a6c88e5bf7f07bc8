-- What lines say together.
use Rattle.std.specs.Prelude.{ℕ, ◌≡◌, ◌<◌, ◌++◌, List, [], ◌∷◌, length, Option, Some, None}
use Rattle.ras_module.specs.declared.address.Address.{Address}
use Rattle.script.specs.declared.event.ScriptEvent.{ScriptEvent}
use Rattle.zone_config.specs.declared.key.Key.{Key}
use Rattle.script.specs.declared.line.Line.{Line}
use Rattle.script.specs.declared.line.Line.TheVariants.{Blank, Zone, Set, Pool, At}
use Rattle.script.specs.Pools.{PoolEntry}

-- the zone, the settings, the pools and the events
pub record Said : Type 0 where
  pub zone : Option (List ℕ × Address)
  pub settings : List (Key × ℕ)
  pub pools : List PoolEntry
  pub events : List ScriptEvent

-- the zone, the setting, the pool and the event of a line, if it has one
abbrev pub zone_in : Option Line → Option (List ℕ × Address)
zone_in (Some (Zone name address)) = Some (name, address)
zone_in (Some (Set setting)) = None
zone_in (Some (Pool pool)) = None
zone_in (Some (At event)) = None
zone_in (Some Blank) = None
zone_in None = None

abbrev pub setting_in : Option Line → Option (Key × ℕ)
setting_in (Some (Zone name address)) = None
setting_in (Some (Set setting)) = Some setting
setting_in (Some (Pool pool)) = None
setting_in (Some (At event)) = None
setting_in (Some Blank) = None
setting_in None = None

abbrev pub pool_in : Option Line → Option PoolEntry
pool_in (Some (Zone name address)) = None
pool_in (Some (Set setting)) = None
pool_in (Some (Pool pool)) = Some pool
pool_in (Some (At event)) = None
pool_in (Some Blank) = None
pool_in None = None

abbrev pub event_in : Option Line → Option ScriptEvent
event_in (Some (Zone name address)) = None
event_in (Some (Set setting)) = None
event_in (Some (Pool pool)) = None
event_in (Some (At event)) = Some event
event_in (Some Blank) = None
event_in None = None

-- what is said with one more line
abbrev pub with_line : Said → Line → Said
with_line said Blank = said
with_line said (Zone name address) = record said { zone = Some (name, address) }
with_line said (Set setting) = record said { settings = said.settings ++ setting ∷ [] }
with_line said (Pool pool) = record said { pools = said.pools ++ pool ∷ [] }
with_line said (At event) = record said { events = said.events ++ event ∷ [] }

-- whether a line may stand behind what is said: a zone has at most 16 pools
abbrev pub MayFollow : Said → Line → Type 0
MayFollow said Blank = Unit {0}
MayFollow said (Zone name address) = said.events ≡ []
MayFollow said (Set setting) = said.events ≡ []
MayFollow said (Pool pool) = (said.events ≡ []) × (length said.pools < 16)
MayFollow said (At event) = Unit {0}
