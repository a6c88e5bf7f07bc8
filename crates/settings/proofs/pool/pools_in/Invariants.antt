use Rattle.std.proofs.Common.{◌≡◌, ◌≤◌, ◌-◌, drop, length}
use Rattle.toml.specs.View.{items_view}
use Rattle.settings.specs.Pools.{pools_from}
use Rattle.settings.proofs.PoolLists.{behind}
use Rattle.settings.proofs.pool.pools_in.Given as goal

abbrev pub invariant-loop-value : goal.invariant-loop-value
invariant-loop-value l = record {
  pools : pools_from (items_view l.values) 16
      ≡ behind l.pools.items
      (pools_from (items_view (drop l.value-index l.values)) (16 - l.value-index));
  as_many : length l.pools.items ≡ l.value-index;
  few : l.value-index ≤ 16;
}
