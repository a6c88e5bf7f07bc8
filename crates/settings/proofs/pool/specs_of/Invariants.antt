use Rattle.std.proofs.Common.{◌≡◌, map, take, true}
use Rattle.std.specs.List.{list_all}
use Rattle.settings.specs.Ranges.{is_limited}
use Rattle.settings.proofs.pool.specs_of.Given as goal

abbrev pub invariant-loop-pool : goal.invariant-loop-pool
invariant-loop-pool l = record {
  items : l.specs.items ≡ map (λ p. p.0) (take l.pool-index l.pools);
  limits : list_all is_limited l.specs.items ≡ true;
}
