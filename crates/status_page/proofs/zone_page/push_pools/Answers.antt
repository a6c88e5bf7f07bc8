use Rattle.std.proofs.Common.{[], ◌∷◌, codes, refl}
use Rattle.status_page.specs.JsonZone.{pool_json}
use Rattle.status_page.proofs.Written.{comma, next_listed_at}
use Rattle.status_page.proofs.zone_page.push_pools.Goals as goal

pub loop-pool-preserved : goal.loop-pool-preserved
loop-pool-preserved c = record {
  text = next_listed_at (codes ",") pool_json c.loop-pool.before.now _ _ _ c.args.pools.now c.loop-pool.pool-index _
      c.loop-pool-test.true c.in_ok-push_pool.ensures c.loop-pool.invariant.text;
  is_text = (44 ∷ [], (refl, comma));
}
