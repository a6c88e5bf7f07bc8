-- The pools that a script describes; none if a line is not understood.
use Rattle.std.specs.Prelude.{ℕ, List, [], ◌∷◌, map, Option, Some, None, codes, if◌then◌else◌}
use Rattle.std.specs.Str.{bytes_eq}
use Rattle.pools.specs.declared.pool_spec.PoolSpec.{PoolSpec}
use Rattle.pools.specs.declared.pool_spec.PoolSpec.TheVariants.{Fixed, Step, Paced}
use Rattle.zone_config.specs.declared.network.Network.{Network}
use Rattle.value_texts.specs.declared.pool_kind.PoolKind.{PoolKind}
use Rattle.value_texts.specs.declared.pool_kind.PoolKind.TheVariants as kinds
use Rattle.value_texts.specs.Texts.{◌>>=◌, number_of, network_of, kind_of}

-- a pool, with the network that it serves; none: every address
abbrev pub PoolEntry : Type 0
PoolEntry = PoolSpec × Option Network

abbrev pub one_network : List ℕ → Option (Option Network)
one_network word = do
  network ← network_of word
  Some (Some network)

-- nothing, or `for NETWORK`
abbrev pub served_network : List (List ℕ) → Option (Option Network)
served_network [] = Some None
served_network (mark ∷ network ∷ []) =
    if bytes_eq mark (codes "for") then one_network network else None
served_network other = None

abbrev pub pool_with_network : PoolSpec → List (List ℕ) → Option PoolEntry
pool_with_network spec words = do
  network ← served_network words
  Some (spec, network)

-- a limit is of 0 to 10^12 units, and a step or a burst of 1 to 2^32 - 1
abbrev pub limit_of : List ℕ → Option ℕ
limit_of word = number_of 0 1000000000000 word

abbrev pub units_of : List ℕ → Option ℕ
units_of word = number_of 1 4294967295 word

-- `LIMIT`
abbrev pub fixed_pool : List (List ℕ) → Option PoolEntry
fixed_pool (limit ∷ words) = do
  limit ← limit_of limit
  pool_with_network (Fixed limit) words
fixed_pool [] = None

-- `LIMIT STEP`
abbrev pub step_pool : List (List ℕ) → Option PoolEntry
step_pool (limit ∷ step ∷ words) = do
  limit ← limit_of limit
  step ← units_of step
  pool_with_network (Step limit step) words
step_pool other = None

-- `LIMIT BURST`
abbrev pub paced_pool : List (List ℕ) → Option PoolEntry
paced_pool (limit ∷ burst ∷ words) = do
  limit ← limit_of limit
  burst ← units_of burst
  pool_with_network (Paced limit burst) words
paced_pool other = None

abbrev pub pool_of_kind : Option PoolKind → List (List ℕ) → Option PoolEntry
pool_of_kind (Some kinds.Fixed) words = fixed_pool words
pool_of_kind (Some kinds.Step) words = step_pool words
pool_of_kind (Some kinds.Paced) words = paced_pool words
pool_of_kind None words = None

-- the first word behind `pool` says which kind of pool it is
abbrev pub pool_of : List (List ℕ) → Option PoolEntry
pool_of [] = None
pool_of (kind ∷ words) = pool_of_kind (kind_of kind) words

-- the pool of an entry that serves every address
abbrev pub without_network : PoolEntry → Option PoolSpec
without_network (spec, None) = Some spec
without_network (spec, Some network) = None

-- a pool as in a pool line, of which no network is named
abbrev pub fresh_pool : List (List ℕ) → Option PoolSpec
fresh_pool words = do
  pool ← pool_of words
  without_network pool

-- the networks of the pools; without a pool line there is one pool, which serves every address
abbrev pub networks_of : List PoolEntry → List (Option Network)
networks_of [] = None ∷ []
networks_of (pool ∷ pools) = map (λ p. p.1) (pool ∷ pools)

-- the pools; without a pool line the one pool is a fixed one of the zone's limit
abbrev pub specs_of : ℕ → List PoolEntry → List PoolSpec
specs_of limit [] = Fixed limit ∷ []
specs_of limit (pool ∷ pools) = map (λ p. p.0) (pool ∷ pools)
