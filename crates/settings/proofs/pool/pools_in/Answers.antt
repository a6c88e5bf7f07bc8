use Rattle.std.proofs.Common.{◌+◌, ◌-◌, ◌∙◌, List, ap, arith, drop, length, length-append, sym}
use Rattle.toml.specs.declared.value.Value.{Value}
use Rattle.toml.specs.View.{items_view, view}
use Rattle.settings.specs.Pools.{pool_of, pools_from}
use Rattle.settings.specs.Ranges.{PoolEntry}
use Rattle.settings.proofs.PoolLists.{behind, one_too_many, refused_pool, read_pool, no_pool_left}
use Rattle.settings.proofs.pool.pools_in.Goals as goal

pub returns-then-len-eq-MOST_POOLS-clause-err : goal.returns-then-len-eq-MOST_POOLS-clause-err
returns-then-len-eq-MOST_POOLS-clause-err c not_memory =
    c.loop-value.invariant.pools
    ∙ one_too_many c.args.values.now c.loop-value.value-index c.value-item.result
    c.loop-value.pools.items c.loop-value-test.true (omega arith)

pub returns-in-Err-clause-err : goal.returns-in-Err-clause-err
returns-in-Err-clause-err c not_memory =
    c.loop-value.invariant.pools
    ∙ refused_pool c.args.values.now c.loop-value.value-index c.value-item.result
    c.loop-value.pools.items c.in-Err.refusal c.loop-value-test.true (omega arith)
    (ap (λ (value : Value). pool_of (view value)) (sym c.value-item.is) ∙ sym c.pool_of.ensures
    ∙ c.in-Err.is)

pub loop-value-preserved : goal.loop-value-preserved
loop-value-preserved c =
    let values = c.args.values.now in
    let i = c.loop-value.value-index in
    let items = c.in_ok-push-in-Ok.ensures.items in
    record {
      pools = c.loop-value.invariant.pools
          ∙ read_pool values i c.value-item.result c.loop-value.pools.items c.in-Ok.pool
          c.loop-value-test.true (omega arith)
          (ap (λ (value : Value). pool_of (view value)) (sym c.value-item.is)
          ∙ sym c.pool_of.ensures ∙ c.in-Ok.is)
          ∙ ap (λ (pools : List PoolEntry). behind pools
          (pools_from (items_view (drop (i + 1) values)) (16 - (i + 1)))) (sym items);
      as_many = omega (arith, simp length-append at (ap length items));
      few = omega arith;
    }

pub returns-clause-ok : goal.returns-clause-ok
returns-clause-ok c =
    c.loop-value.invariant.pools
    ∙ no_pool_left c.args.values.now c.loop-value.value-index (16 - c.loop-value.value-index)
    c.loop-value.pools.items c.loop-value-test.false
