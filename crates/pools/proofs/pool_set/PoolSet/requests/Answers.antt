use Rattle.std.proofs.Common.{ap, arith}
use Rattle.pools.specs.Members.{Member}
use Rattle.pools.proofs.Changing.{below_sixteen, counts_here}
use Rattle.pools.proofs.pool_set.PoolSet.requests.Goals as goal

pub offset_bounds-self-inside-i : goal.offset_bounds-self-inside-i
offset_bounds-self-inside-i g c = omega (
  arith,
  below_sixteen g.P.Pool.account _ _ _ c.self.view_is c.self.invariant.counted c.args.i c.requires,
)

pub bounds-self-inside-i : goal.bounds-self-inside-i
bounds-self-inside-i g c =
    below_sixteen g.P.Pool.account _ _ _ c.self.view_is c.self.invariant.counted c.args.i c.requires

pub returns : goal.returns
returns g c =
    ap (λ (m : Member). m.requests)
    (counts_here g.P.Pool.account _ _ _ c.self.view_is c.self.invariant.counted c.args.i c.requires)
