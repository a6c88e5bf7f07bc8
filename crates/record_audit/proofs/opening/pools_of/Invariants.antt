use Rattle.std.proofs.Common.{◌≡◌, map, take}
use Rattle.pools.specs.Specs.{pool_of}
use Rattle.record_audit.proofs.opening.pools_of.Given as goal

abbrev pub invariant-loop-spec : goal.invariant-loop-spec
invariant-loop-spec l = l.pools.items ≡ map pool_of (take l.spec-index l.specs)
