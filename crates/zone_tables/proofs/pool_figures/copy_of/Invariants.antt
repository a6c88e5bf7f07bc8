use Rattle.std.proofs.Common.{◌≡◌, take}
use Rattle.zone_tables.proofs.pool_figures.copy_of.Given as goal

-- the figures so far
abbrev pub invariant-loop-one : goal.invariant-loop-one
invariant-loop-one l = l.items.items ≡ take l.one-index l.figures
