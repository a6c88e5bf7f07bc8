use Rattle.std.proofs.Common.{◌∙◌, ap, arith}
use Rattle.pools.proofs.Changing.{account_here, below_pools, below_sixteen, set-written, written}
use Rattle.pools.proofs.pool_set.PoolSet.exchange.Goals as goal

pub offset_bounds-self-inside-i : goal.offset_bounds-self-inside-i
offset_bounds-self-inside-i g c = omega (
  arith,
  below_sixteen g.P.Pool.account _ _ _ c.self.view_is c.self.invariant.counted c.args.i c.requires.pool,
)

pub bounds-self-inside-i : goal.bounds-self-inside-i
bounds-self-inside-i g c =
    below_sixteen g.P.Pool.account _ _ _ c.self.view_is c.self.invariant.counted c.args.i c.requires.pool

pub index_mut-requires : goal.index_mut-requires
index_mut-requires g c =
    omega (
      arith,
      below_pools g.P.Pool.account _ _ _ c.self.view_is c.self.invariant.counted c.args.i c.requires.pool,
    )

pub returns-clause-old : goal.returns-clause-old
returns-clause-old g c =
    ap g.P.Pool.account c.replace.ensures.value
    ∙ account_here g.P.Pool.account _ _ _ c.self.view_is c.self.invariant.counted c.args.i
    c.requires.pool _ c.index_mut.ensures.value

pub returns-clause-after : goal.returns-clause-after
returns-clause-after g c =
    written g.P.Pool.account _ _ _ c.self.view_is c.self.invariant.counted c.args.i c.requires.pool _ _ _
    (λ j. record {
      account = g.P.Pool.account (c.replace.ensures.after j);
      requests = c.args.requests;
      turns = 0;
    })

pub invariant_of-self : goal.invariant_of-self
invariant_of-self g c =
    set-written g.P.Pool.account _ _ _ c.self.view_is c.self.invariant c.args.i c.requires.pool _ _
    c.requires.within _
    (λ j. record {
      account = g.P.Pool.account (c.replace.ensures.after j);
      requests = c.args.requests;
      turns = 0;
    })
