use Rattle.std.proofs.Common.{arith, subst}
use Rattle.pools.specs.Members.{IsPoolSet}
use Rattle.pools.proofs.Changing.{as_many}
use Rattle.pools.proofs.pool_set.PoolSet.len.Goals as goal

pub returns-clause-value : goal.returns-clause-value
returns-clause-value g c =
    omega (
      arith,
      c.len.ensures,
      as_many g.P.Pool.account _ _ _ c.self.view_is c.self.invariant.counted,
    )

pub returns-clause-sound : goal.returns-clause-sound
returns-clause-sound g c = subst IsPoolSet c.self.view_is c.self.invariant.sound
