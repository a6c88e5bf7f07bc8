-- What the tables `[[pool]]` set.
use Rattle.std.specs.Prelude.{ℕ, suc, zero, List, [], ◌∷◌, codes}
use Rattle.std.specs.Prelude.{Option, Some, None, Result, Ok, Err}
use Rattle.toml.specs.Data.{Data, Items, item, no_items, Members}
use Rattle.toml.specs.Data.{as_array, as_table, get_member}
use Rattle.pools.specs.declared.pool_spec.PoolSpec.{PoolSpec}
use Rattle.pools.specs.declared.pool_spec.PoolSpec.TheVariants as pool
use Rattle.zone_config.specs.declared.network.Network.{Network}
use Rattle.value_texts.specs.declared.pool_kind.PoolKind.{PoolKind}
use Rattle.value_texts.specs.declared.pool_kind.PoolKind.TheVariants as kind
use Rattle.value_texts.specs.Texts as texts
use Rattle.settings.specs.declared.fault.Refusal.{Refusal}
use Rattle.settings.specs.declared.fault.Refusal.TheVariants.{OutOfRange}
use Rattle.settings.specs.declared.setting_key.SettingKey.TheVariants as key
use Rattle.settings.specs.Ranges.{PoolEntry}
use Rattle.settings.specs.Values.{◌>>=◌, of_kind, required_number, required_text, text_in}

abbrev pub kind_of : Members → Result PoolKind Refusal
kind_of table = required_text key.PoolKind texts.kind_of (get_member (codes "kind") table)

-- the pool of a kind: a step pool needs its step, a paced pool its burst
abbrev pub spec_of : Members → PoolKind → ℕ → Result PoolSpec Refusal
spec_of table kind.Fixed limit = Ok (pool.Fixed limit)
spec_of table kind.Step limit = do
  step ← required_number key.PoolStep 1 4294967295 (get_member (codes "step") table)
  Ok (pool.Step limit step)
spec_of table kind.Paced limit = do
  burst ← required_number key.PoolBurst 1 4294967295 (get_member (codes "burst") table)
  Ok (pool.Paced limit burst)

-- without a network the pool serves every address
abbrev pub network_at : Option Data → Result (Option Network) Refusal
network_at None = Ok None
network_at (Some value) = do
  network ← text_in key.PoolNetwork texts.network_of value
  Ok (Some network)

abbrev pub network_of : Members → Result (Option Network) Refusal
network_of table = network_at (get_member (codes "network") table)

-- a pool's keys, tested in this order
unfoldable pub pool_in : Members → Result PoolEntry Refusal
pool_in table = do
  kind ← kind_of table
  limit ← required_number key.PoolLimit 0 1000000000000 (get_member (codes "limit") table)
  spec ← spec_of table kind limit
  network ← network_of table
  Ok (spec, network)

unfoldable pub pool_of : Data → Result PoolEntry Refusal
pool_of value = do
  table ← of_kind key.Pools (as_table value)
  pool_in table

-- the pools in order, of which `room` may be there: the one behind them is refused once they are
-- tested
unfoldable pub pools_from : Items → ℕ → Result (List PoolEntry) Refusal
pools_from no_items room = Ok []
pools_from (item value values) zero = Err (OutOfRange key.Pools)
pools_from (item value values) (suc room) = do
  pool ← pool_of value
  pools ← pools_from values room
  Ok (pool ∷ pools)

-- at most 16 pools
unfoldable pub pools_of : Option Data → Result (List PoolEntry) Refusal
pools_of None = Ok []
pools_of (Some value) = do
  values ← of_kind key.Pools (as_array value)
  pools_from values 16
