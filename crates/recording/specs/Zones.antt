-- The zone that a record begins with, and its lines.
use Rattle.std.specs.Prelude.{ℕ, ◌==◌, ◌&&◌, ◌||◌, Bool, not, List, [], ◌∷◌, ◌++◌, length, map}
use Rattle.std.specs.Prelude.{nat_le, slice_index, Option, Some, None, Result, Ok, Err, codes}
use Rattle.std.specs.Prelude.{if◌then◌else◌}
use Rattle.std.specs.Fmt.{decimal}
use Rattle.std.specs.Int.{is_in_range}
use Rattle.std.specs.List.{list_all, zip}
use Rattle.pools.specs.declared.pool_spec.PoolSpec.{PoolSpec}
use Rattle.pools.specs.declared.pool_spec.PoolSpec.TheVariants.{Fixed, Step, Paced}
use Rattle.zone_config.specs.declared.config.ConfigParts.{ConfigParts}
use Rattle.zone_config.specs.declared.key.Key.{Key}
use Rattle.zone_config.specs.declared.network.Network.{Network}
use Rattle.zone_config.specs.Keys.{all_keys, name_of, number_in}
use Rattle.script.specs.EventLines.{pool_text}
use Rattle.script.specs.Pools.{PoolEntry}
use Rattle.script.specs.Prints.{address_text, identifier_text}
use Rattle.recording.specs.declared.recorded_zone.ZoneFault.{ZoneFault}
use Rattle.recording.specs.declared.recorded_zone.ZoneFault.TheVariants.{Name, Pools}

-- its settings, and its pools, one for each network of the settings
pub record ZoneParts : Type 0 where
  pub config : ConfigParts
  pub pools : List PoolSpec

-- no space, no end of a line, and no half of a surrogate pair
abbrev pub is_word_character : ℕ → Bool
is_word_character c = not (c == 32) && not (c == 10) && not (is_in_range 0xD800 0xDFFF c)

abbrev pub is_one_word : List ℕ → Bool
is_one_word name = list_all is_word_character name

-- at most 10^12 units
abbrev pub has_script_limit : PoolSpec → Bool
has_script_limit (Fixed limit) = nat_le limit 1000000000000
has_script_limit (Step limit step) = nat_le limit 1000000000000
has_script_limit (Paced limit burst) = nat_le limit 1000000000000

-- a script has one pool for each network, and at most 16
abbrev pub are_script_pools : List PoolSpec → List (Option Network) → Bool
are_script_pools pools networks =
    length pools == length networks && nat_le (length pools) 16 && list_all has_script_limit pools

-- the zone of these settings over these pools, if lines of a script can describe it
abbrev pub recorded_zone : ConfigParts → List PoolSpec → Result ZoneParts ZoneFault
recorded_zone config pools =
    if is_one_word config.identifier
    then (
    if are_script_pools pools config.networks
    then Ok (record { config = config; pools = pools })
    else Err Pools
    )
    else Err Name

-- `zone NAME ADDRESS`
abbrev pub zone_text : ConfigParts → List ℕ
zone_text config =
    codes "zone " ++ identifier_text config.identifier ++ codes " " ++ address_text config.address

-- `set KEY NUMBER`
abbrev pub setting_text : ConfigParts → Key → List ℕ
setting_text config key = codes "set " ++ name_of key ++ codes " " ++ decimal (number_in config key)

-- `A.B.C.D/BITS`
abbrev pub network_text : Network → List ℕ
network_text network =
    decimal (slice_index network.ip 0) ++ codes "."
    ++ decimal (slice_index network.ip 1) ++ codes "."
    ++ decimal (slice_index network.ip 2) ++ codes "."
    ++ decimal (slice_index network.ip 3) ++ codes "/"
    ++ decimal network.bits

-- nothing, or ` for NETWORK`
abbrev pub served_text : Option Network → List ℕ
served_text None = []
served_text (Some network) = codes " for " ++ network_text network

-- `pool`, a kind of pool with its numbers, and perhaps a network
abbrev pub pool_line_text : PoolEntry → List ℕ
pool_line_text pool = codes "pool " ++ pool_text pool.0 ++ served_text pool.1

-- the line of the zone, a line for each key, and a line for each pool
abbrev pub zone_texts : ZoneParts → List (List ℕ)
zone_texts zone =
    zone_text zone.config
    ∷ (map (setting_text zone.config) all_keys
    ++ map pool_line_text (zip zone.pools zone.config.networks))

-- these lines, each with its end
abbrev pub with_ends : List (List ℕ) → List ℕ
with_ends [] = []
with_ends (text ∷ texts) = (text ++ codes "\n") ++ with_ends texts

unfoldable pub zone_lines : ZoneParts → List ℕ
zone_lines zone = with_ends (zone_texts zone)
