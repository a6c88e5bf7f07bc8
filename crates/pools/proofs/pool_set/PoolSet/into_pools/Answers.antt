use Rattle.std.proofs.Common.{◌≤◌, ◌∙◌, ap, arith, length, map}
use Rattle.std.proofs.lemmas.List.{length-map}
use Rattle.pools.specs.Members.{accounts_of}
use Rattle.pools.proofs.Changing.{accounts_of-members_of}
use Rattle.pools.proofs.pool_set.PoolSet.into_pools.Goals as goal

pub returns : goal.returns
returns g c =
    let f = g.P.Pool.account in
    let pools = c.self.inside.pools.items in
    let few : length (map f pools) ≤ length c.self.inside.counts =
    omega (arith, c.self.invariant.counted.few, c.self.invariant.counted.each, length-map pools f) in
    accounts_of-members_of (map f pools) c.self.inside.counts few ∙ ap accounts_of c.self.view_is
