-- What a script says as a whole.
use Rattle.std.specs.Prelude.{ℕ, ◌≡◌, ◌+◌, not, List, [], ◌∷◌, length, nat_lt, map, fold}
use Rattle.std.specs.Prelude.{filter_map}
use Rattle.std.specs.Prelude.{Option, Some, None, is_some, Result, Ok, Err, if◌then◌else◌}
use Rattle.std.specs.List.{position_from, last_or}
use Rattle.ras_module.specs.declared.address.Address.{Address}
use Rattle.zone_config.specs.declared.config.ConfigParts.{ConfigParts}
use Rattle.script.specs.declared.read.TheConstants.Script as script_octets
use Rattle.script.specs.declared.event.ScriptEvent.{ScriptEvent}
use Rattle.zone_config.specs.declared.network.Network.{Network}
use Rattle.zone_config.specs.Defaults.{default_parts}
use Rattle.zone_config.specs.Networks.{has_default}
use Rattle.script.specs.declared.fault.ScriptFault.{ScriptFault}
use Rattle.script.specs.declared.fault.ScriptFault.TheVariants.{TooLong, BadLine, NoZone}
use Rattle.script.specs.declared.fault.ScriptFault.TheVariants.{NoDefaultPool, Stream, Memory}
use Rattle.zone_config.specs.declared.key.Key.{Key}
use Rattle.script.specs.declared.line.Line.{Line}
use Rattle.script.specs.declared.line.Line.TheVariants.{Blank, Zone, Set, Pool, At}
use Rattle.script.specs.declared.read.Script.{Script}
use Rattle.script.specs.Words.{lines_of}
use Rattle.script.specs.Lines.{line_of}
use Rattle.zone_config.specs.Keys.{with_number}
use Rattle.script.specs.Pools.{PoolEntry, networks_of, specs_of}
use Rattle.script.specs.Said.{Said, zone_in, setting_in, pool_in, event_in}

-- behind an event, a line that names the zone, sets something or has a pool is not understood
abbrev pub behind_event : Option Line → Option Line
behind_event (Some (Zone name address)) = None
behind_event (Some (Set setting)) = None
behind_event (Some (Pool pool)) = None
behind_event (Some (At event)) = Some (At event)
behind_event (Some Blank) = Some Blank
behind_event None = None

-- behind this many pool lines, a further one is not understood if they are 16
abbrev pub behind_pools : ℕ → Option Line → Option Line
behind_pools pools (Some (Zone name address)) = Some (Zone name address)
behind_pools pools (Some (Set setting)) = Some (Set setting)
behind_pools pools (Some (Pool pool)) = if nat_lt pools 16 then Some (Pool pool) else None
behind_pools pools (Some (At event)) = Some (At event)
behind_pools pools (Some Blank) = Some Blank
behind_pools pools None = None

-- what each line says where it stands; the first stands behind this many pool lines and no event
abbrev pub in_place : ℕ → List (Option Line) → List (Option Line)
in_place pools [] = []
in_place pools (line ∷ lines) =
    behind_pools pools line
    ∷ (if is_some (event_in line) then map behind_event lines
    else in_place (if is_some (pool_in line) then pools + 1 else pools) lines)

-- the last zone line counts, and all settings, pools and events in order
abbrev pub said_by : List (Option Line) → Said
said_by lines = record {
  zone = last_or None (filter_map zone_in lines);
  settings = filter_map setting_in lines;
  pools = filter_map pool_in lines;
  events = filter_map event_in lines;
}

abbrev pub with_setting : ConfigParts → Key × ℕ → ConfigParts
with_setting parts setting = with_number parts setting.0 setting.1

-- the settings are made one after the other, so that of repeated ones the last counts
abbrev pub parts_of : List ℕ × Address → List (Option Network) → List (Key × ℕ) → ConfigParts
parts_of zone networks settings = fold with_setting (default_parts zone.0 zone.1 networks) settings

abbrev pub script_with : ConfigParts → List PoolEntry → List ScriptEvent → Script
script_with config pools events =
    record { config = config; pools = specs_of config.limit pools; events = events }

-- a zone has to be named, and its last pool has to serve every address
abbrev pub script_from : Option (List ℕ × Address) → List (Key × ℕ) → List PoolEntry
    → List ScriptEvent → Result Script ScriptFault
script_from None settings pools events = Err NoZone
script_from (Some zone) settings pools events =
    if has_default (networks_of pools)
    then Ok (script_with (parts_of zone (networks_of pools) settings) pools events)
    else Err NoDefaultPool

-- the first line that is not understood, counted from 1
abbrev pub bad_line : List (Option Line) → Option ℕ
bad_line lines = position_from (λ line. not (is_some line)) 1 lines

abbrev pub script_unless : Option ℕ → Said → Result Script ScriptFault
script_unless (Some bad) said = Err (BadLine bad)
script_unless None said = script_from said.zone said.settings said.pools said.events

-- what the lines say, unless one is not understood
abbrev pub script_of_lines : List (Option Line) → Result Script ScriptFault
script_of_lines lines = script_unless (bad_line lines) (said_by lines)

-- a script has a bounded number of octets
unfoldable pub script_of : List ℕ → Result Script ScriptFault
script_of text =
    if nat_lt script_octets.MOST (length text)
    then Err TooLong
    else script_of_lines (in_place 0 (map line_of (lines_of text)))

-- this is what is returned, unless a read failed or there was no memory
abbrev pub GivesUnlessStopped : Result Script ScriptFault → Result Script ScriptFault → Type 0
GivesUnlessStopped answer (Err Stream) = Unit {0}
GivesUnlessStopped answer (Err Memory) = Unit {0}
GivesUnlessStopped answer (Err TooLong) = answer ≡ Err TooLong
GivesUnlessStopped answer (Err (BadLine line)) = answer ≡ Err (BadLine line)
GivesUnlessStopped answer (Err NoZone) = answer ≡ Err NoZone
GivesUnlessStopped answer (Err NoDefaultPool) = answer ≡ Err NoDefaultPool
GivesUnlessStopped answer (Ok script) = answer ≡ Ok script

-- This is what is returned, unless there was no memory: no read fails of a text that is there.
abbrev pub GivesUnlessMemory : Result Script ScriptFault → Result Script ScriptFault → Type 0
GivesUnlessMemory answer (Err Stream) = ⊥
GivesUnlessMemory answer (Err Memory) = Unit {0}
GivesUnlessMemory answer (Err TooLong) = answer ≡ Err TooLong
GivesUnlessMemory answer (Err (BadLine line)) = answer ≡ Err (BadLine line)
GivesUnlessMemory answer (Err NoZone) = answer ≡ Err NoZone
GivesUnlessMemory answer (Err NoDefaultPool) = answer ≡ Err NoDefaultPool
GivesUnlessMemory answer (Ok script) = answer ≡ Ok script
