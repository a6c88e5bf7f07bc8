-- The settings of a text, and what is answered to it.
use Rattle.std.specs.Prelude.{◌≡◌, List, map, codes, if◌then◌else◌}
use Rattle.std.specs.Prelude.{ℕ, Option, Some, None, Result, Ok, Err, option_map}
use Rattle.toml.specs.Data.{Members, as_table, get_member}
use Rattle.toml.specs.Parse.{parse_document}
use Rattle.zone_config.specs.declared.config.ConfigParts.{ConfigParts}
use Rattle.zone_config.specs.declared.network.Network.{Network}
use Rattle.zone_config.specs.Networks.{has_default}
use Rattle.zone_config.specs.Ranges.{IsConfig}
use Rattle.settings.specs.declared.fault.Refusal.{Refusal}
use Rattle.settings.specs.declared.fault.Refusal.TheVariants as refused
use Rattle.settings.specs.declared.fault.SettingsFault.{SettingsFault}
use Rattle.settings.specs.declared.fault.SettingsFault.TheVariants.{Syntax, Memory}
use Rattle.settings.specs.declared.serve.ServeParts.{ServeParts}
use Rattle.settings.specs.declared.serve_key.ServeKey.{ServeKey}
use Rattle.settings.specs.declared.serve_key.ServeKey.TheVariants.{Receivers, Ring, Faults, Tick}
use Rattle.settings.specs.declared.serve_key.ServeKey.TheVariants.{Buffer}
use Rattle.settings.specs.declared.setting_key.SettingKey.TheVariants.{ZoneTable}
use Rattle.settings.specs.declared.settings.Settings.{Settings}
use Rattle.settings.specs.Faults.{Tells}
use Rattle.settings.specs.Pools.{pools_of}
use Rattle.settings.specs.Ranges.{ArePools, AreServeNumbers, PoolEntry}
use Rattle.settings.specs.ServeTables.{serve_of}
use Rattle.settings.specs.Values.{◌>>=◌, of_kind, required}
use Rattle.settings.specs.Zones.{zone_of}

-- the table of the zone has to be there
abbrev pub zone_in : Members → Result ConfigParts Refusal
zone_in document = do
  value ← required ZoneTable (get_member (codes "zone") document)
  table ← of_kind ZoneTable (as_table value)
  zone_of table

-- the settings of a zone with these networks, of which the last serves every address
abbrev pub config_with : ConfigParts → List (Option Network) → Option ConfigParts
config_with parts networks =
    if has_default networks then Some (record parts { networks = networks }) else None

abbrev pub settings_from : Option ConfigParts → ServeParts → List PoolEntry
    → Result Settings Refusal
settings_from None serve pools = Err refused.NoDefaultPool
settings_from (Some config) serve pools = Ok (record {
  config = config;
  pools = map (λ p. p.0) pools;
  receivers = serve.receivers;
  ring = serve.ring;
  faults = serve.faults;
  tick = serve.tick;
  buffer = serve.buffer;
  status = serve.status;
})

abbrev pub settings_with : ConfigParts → ServeParts → List PoolEntry → Result Settings Refusal
settings_with parts serve pools =
    settings_from (config_with parts (map (λ p. p.1) pools)) serve pools

-- what a document sets: the tables are tested in this order, and the default pool last
unfoldable pub settings_in : Members → Result Settings Refusal
settings_in document = do
  parts ← zone_in document
  serve ← serve_of (get_member (codes "serve") document)
  pools ← pools_of (get_member (codes "pool") document)
  settings_with parts serve pools

-- what a text sets; none if it is no TOML document
abbrev pub settings_of : List ℕ → Option (Result Settings Refusal)
settings_of text = option_map settings_in (parse_document text)

-- some refusal is meant, and the fault tells of it
abbrev pub IsTold : Option (Result Settings Refusal) → SettingsFault → Type 0
IsTold (Some (Err refusal)) fault = Tells refusal fault
IsTold meant fault = ⊥

-- The answer is what is meant, unless memory is refused.
abbrev pub IsAnswer : Option (Result Settings Refusal) → Result Settings SettingsFault → Type 0
IsAnswer meant (Ok settings) = meant ≡ Some (Ok settings)
IsAnswer meant (Err Memory) = Unit {0}
IsAnswer meant (Err (Syntax error)) = meant ≡ None
IsAnswer meant (Err fault) = IsTold meant fault

-- the number of a key of the server
abbrev pub serve_number_in : Settings → ServeKey → ℕ
serve_number_in settings Receivers = settings.receivers
serve_number_in settings Ring = settings.ring
serve_number_in settings Faults = settings.faults
serve_number_in settings Tick = settings.tick
serve_number_in settings Buffer = settings.buffer

-- each number is in its range
pub record AreSettings (settings : Settings) : Type 0 where
  pub zone : IsConfig settings.config
  pub pools : ArePools settings.pools settings.config.networks
  pub serve : AreServeNumbers settings.receivers settings.ring settings.faults settings.tick
      settings.buffer
