use Rattle.std.proofs.Common.{arith}
use Rattle.pools.proofs.Changing.{account_here, below_pools}
use Rattle.pools.proofs.pool_set.PoolSet.pool.Goals as goal

pub index-requires : goal.index-requires
index-requires g c =
    omega (
      arith,
      below_pools g.P.Pool.account _ _ _ c.self.view_is c.self.invariant.counted c.args.i c.requires,
    )

pub returns : goal.returns
returns g c =
    account_here g.P.Pool.account _ _ _ c.self.view_is c.self.invariant.counted c.args.i c.requires _
    c.index.ensures
