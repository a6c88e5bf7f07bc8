use Rattle.std.proofs.Common.{◌≡◌, map, take, false}
use Rattle.std.specs.List.{list_any}
use Rattle.zone_config.specs.Networks.{is_too_long}
use Rattle.settings.proofs.pool.networks_of.Given as goal

abbrev pub invariant-loop-pool : goal.invariant-loop-pool
invariant-loop-pool l = record {
  items : l.networks.items ≡ map (λ p. p.1) (take l.pool-index l.pools);
  bits : list_any is_too_long l.networks.items ≡ false;
}
