-- The lines of a zone, read as a script.
use Rattle.std.specs.Prelude.{ℕ, ◌≡◌, ◌≤◌, ◌<◌, List, [], length, Option, Some, None, Ok}
use Rattle.std.specs.List.{AllByRecursion}
use Rattle.pools.specs.declared.pool_spec.PoolSpec.{PoolSpec}
use Rattle.pools.specs.declared.pool_spec.PoolSpec.TheVariants.{Fixed, Step, Paced}
use Rattle.ras_writing.specs.Properties.{IsAddress, IsName}
use Rattle.zone_config.specs.declared.network.Network.{Network}
use Rattle.zone_config.specs.Ranges.{IsConfig}
use Rattle.script.specs.declared.read.TheConstants.Script as script_octets
use Rattle.script.specs.Scripts.{script_of}
use Rattle.recording.specs.Zones.{ZoneParts, recorded_zone, zone_lines}

-- what the type of a network keeps
pub record HasFourOctets (network : Network) : Type 0 where
  pub four : length network.ip ≡ 4
  pub fit : AllByRecursion (λ x. x < 256) network.ip

abbrev pub IsNetwork : Option Network → Type 0
IsNetwork None = Unit {0}
IsNetwork (Some network) = HasFourOctets network

-- what the type of units keeps
abbrev pub AreUnits : ℕ → Type 0
AreUnits units = (1 ≤ units) × (units ≤ 4294967295)

abbrev pub IsSpec : PoolSpec → Type 0
IsSpec (Fixed limit) = Unit {0}
IsSpec (Step limit step) = AreUnits step
IsSpec (Paced limit burst) = AreUnits burst

-- what the types of a zone keep that may be recorded
pub record IsZone (zone : ZoneParts) : Type 0 where
  pub taken : recorded_zone zone.config zone.pools ≡ Ok zone
  pub config : IsConfig zone.config
  pub name : IsName zone.config.identifier
  pub address : IsAddress zone.config.address
  pub networks : AllByRecursion IsNetwork zone.config.networks
  pub pools : AllByRecursion IsSpec zone.pools

-- the script that its lines are has these settings and these pools, and no event
abbrev pub IsReadAgain : ZoneParts → Type 0
IsReadAgain zone =
    length (zone_lines zone) ≤ script_octets.MOST
    → script_of (zone_lines zone)
    ≡ Ok (record { config = zone.config; pools = zone.pools; events = [] })
