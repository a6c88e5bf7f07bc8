use Rattle.std.proofs.Common.{◌≡◌, ◌≤◌, ℕ, take, length}
use Rattle.pools.specs.Members.{accounts_of}
use Rattle.zone_tables.specs.Pools.{figures_at, figures_of}
use Rattle.ras_core.specs.Tallies.{tallies_of}
use Rattle.ras_core.proofs.settling.give_back.Given as goal

-- the first pools have the figures already, the others still have their own
abbrev pub invariant-loop-i : goal.invariant-loop-i
invariant-loop-i g l = record {
  done : take l.i (figures_of (accounts_of l.pools)) ≡ take l.i l.figures;
  rest : (p : ℕ) → l.i ≤ p → figures_at (figures_of (accounts_of l.pools)) p
      ≡ figures_at (figures_of (accounts_of l.fn.pools)) p;
  each : length l.pools ≡ length l.fn.pools;
  tallies : tallies_of l.pools ≡ tallies_of l.fn.pools;
}
