use Rattle.std.proofs.Common.{◌≡◌, ◌++◌, drop}
use Rattle.toml.specs.View.{items_view}
use Rattle.settings.specs.Unknown.{paths_of, unknown_of_pools}
use Rattle.settings.proofs.unknown.add_pools.Given as goal

abbrev pub invariant-loop-pool : goal.invariant-loop-pool
invariant-loop-pool l =
    paths_of l.initial.unknown.items ++ unknown_of_pools (items_view l.pools)
    ≡ paths_of l.unknown.items ++ unknown_of_pools (items_view (drop l.pool-index l.pools))
