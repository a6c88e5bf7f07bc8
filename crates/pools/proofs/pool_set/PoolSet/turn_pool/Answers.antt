use Rattle.std.proofs.Common.{◌∙◌, ap, arith, subst}
use Rattle.pools.specs.Members.{IsPoolSet, Member, one_more}
use Rattle.pools.proofs.Changing.{account_here, below_pools, below_sixteen, counts_here}
use Rattle.pools.proofs.Changing.{set-written, within_limit_at, written}
use Rattle.pools.proofs.pool_set.PoolSet.turn_pool.Goals as goal

pub offset_bounds-self-inside-i : goal.offset_bounds-self-inside-i
offset_bounds-self-inside-i g c = omega (
  arith,
  below_sixteen g.P.Pool.account _ _ _ c.self.view_is c.self.invariant.counted c.args.i c.requires,
)

pub bounds-self-inside-i : goal.bounds-self-inside-i
bounds-self-inside-i g c =
    below_sixteen g.P.Pool.account _ _ _ c.self.view_is c.self.invariant.counted c.args.i c.requires

pub index_mut-requires : goal.index_mut-requires
index_mut-requires g c =
    omega (
      arith,
      below_pools g.P.Pool.account _ _ _ c.self.view_is c.self.invariant.counted c.args.i c.requires,
    )

pub returns : goal.returns
returns g c =
    let f = g.P.Pool.account in
    let here = account_here f _ _ _ c.self.view_is c.self.invariant.counted c.args.i c.requires _
    c.index_mut.ensures.value in
    let counts = counts_here f _ _ _ c.self.view_is c.self.invariant.counted c.args.i c.requires in
    written f _ _ _ c.self.view_is c.self.invariant.counted c.args.i c.requires _ _ _
    (λ j. record {
      account = (c.turn.ensures.unchanged ∙ here) j;
      requests = (counts j).requests;
      turns = (c.saturating_add-counts.ensures ∙ ap (λ (m : Member). one_more m.turns) counts) j;
    })

pub invariant_of-self : goal.invariant_of-self
invariant_of-self g c =
    let f = g.P.Pool.account in
    let here = account_here f _ _ _ c.self.view_is c.self.invariant.counted c.args.i c.requires _
    c.index_mut.ensures.value in
    let counts = counts_here f _ _ _ c.self.view_is c.self.invariant.counted c.args.i c.requires in
    set-written f _ _ _ c.self.view_is c.self.invariant c.args.i c.requires _ _
    (within_limit_at _ c.args.i (subst IsPoolSet c.self.view_is c.self.invariant.sound) c.requires)
    _
    (λ j. record {
      account = (c.turn.ensures.unchanged ∙ here) j;
      requests = (counts j).requests;
      turns = (c.saturating_add-counts.ensures ∙ ap (λ (m : Member). one_more m.turns) counts) j;
    })
