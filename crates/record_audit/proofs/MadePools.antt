-- Pools that were made by their descriptions.
use Rattle.std.proofs.Common.{◌≡◌, List, [], ◌∷◌, map, refl}
use Rattle.pools.specs.Specs.{account_in, account_of, pool_of}
use Rattle.pools.specs.declared.pool_spec.PoolSpec.{PoolSpec}
use Rattle.pools.specs.declared.pool_spec.PoolSpec.TheVariants.{Fixed, Step, Paced}

made : (spec : PoolSpec) → account_in (pool_of spec) ≡ account_of spec
made (Fixed limit) = refl
made (Step limit step) = refl
made (Paced limit burst) = refl

-- are seen as these accounts
pub accounts_made : (specs : List PoolSpec) → map account_in (map pool_of specs)
    ≡ map account_of specs
accounts_made [] = refl
accounts_made (spec ∷ specs) = λ i. made spec i ∷ accounts_made specs i
