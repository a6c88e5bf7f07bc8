use Rattle.std.proofs.Common.{◌≡◌, take}
use Rattle.pools.specs.Members.{accounts_of}
use Rattle.zone_tables.specs.Pools.{figures_of}
use Rattle.zone_tables.proofs.pool_figures.PoolFigures.of.Given as goal

-- the figures of the pools so far
abbrev pub invariant-loop-i : goal.invariant-loop-i
invariant-loop-i g l = l.items.items ≡ take l.i (figures_of (accounts_of l.pools))
