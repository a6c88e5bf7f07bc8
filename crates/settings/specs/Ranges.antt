-- The ranges of what is set.
use Rattle.std.specs.Prelude.{ℕ, ◌≡◌, ◌≤◌, Bool, true, false, List, [], ◌∷◌, length, nat_le}
use Rattle.std.specs.Prelude.{Option, None}
use Rattle.std.specs.List.{list_all}
use Rattle.pools.specs.declared.pool_spec.PoolSpec.{PoolSpec}
use Rattle.pools.specs.declared.pool_spec.PoolSpec.TheVariants as pool
use Rattle.zone_config.specs.declared.config.ConfigParts.{ConfigParts}
use Rattle.zone_config.specs.declared.network.Network.{Network}
use Rattle.zone_config.specs.Networks.{is_too_long}
use Rattle.zone_config.specs.Ranges.{IsConfig}
use Rattle.settings.specs.ServeKeys.{takes}
use Rattle.settings.specs.declared.serve_key.ServeKey.TheVariants.{Receivers, Ring, Faults, Tick}
use Rattle.settings.specs.declared.serve_key.ServeKey.TheVariants.{Buffer}

-- the settings of a zone whose one pool serves every address
abbrev pub with_one_pool : ConfigParts → ConfigParts
with_one_pool parts = record parts { networks = None ∷ [] }

-- the numbers of a zone are in their ranges, whatever its networks
abbrev pub HasNumbersInRange : ConfigParts → Type 0
HasNumbersInRange parts = IsConfig (with_one_pool parts)

-- a limit of at most 10^12 units
abbrev pub limit_of : PoolSpec → ℕ
limit_of (pool.Fixed limit) = limit
limit_of (pool.Step limit step) = limit
limit_of (pool.Paced limit burst) = limit

abbrev pub is_limited : PoolSpec → Bool
is_limited spec = nat_le (limit_of spec) 1000000000000

-- a pool with the network that it serves; none: every address
abbrev pub PoolEntry : Type 0
PoolEntry = PoolSpec × Option Network

pub record IsPoolEntry (entry : PoolEntry) : Type 0 where
  pub limit : is_limited entry.0 ≡ true
  pub bits : is_too_long entry.1 ≡ false

-- the numbers of the server are in their ranges
pub record AreServeNumbers (receivers ring faults tick buffer : ℕ) : Type 0 where
  pub receivers_range : takes Receivers receivers ≡ true
  pub ring_range : takes Ring ring ≡ true
  pub faults_range : takes Faults faults ≡ true
  pub tick_range : takes Tick tick ≡ true
  pub buffer_range : takes Buffer buffer ≡ true

-- as many pools as networks, one to sixteen, each with a limit in its range
pub record ArePools (pools : List PoolSpec) (networks : List (Option Network)) : Type 0 where
  pub as_many : length pools ≡ length networks
  pub few : length pools ≤ 16
  pub limits : list_all is_limited pools ≡ true
