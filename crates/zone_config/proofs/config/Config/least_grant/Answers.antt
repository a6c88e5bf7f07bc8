use Rattle.std.proofs.Common.{arith}
use Rattle.zone_config.proofs.RangesKept.{limits}
use Rattle.zone_config.proofs.config.Config.least_grant.Goals as goal

pub overflow_cast-result : goal.overflow_cast-result
overflow_cast-result c =
    omega (arith, (limits c.self.inside.parts c.self.invariant.ranges).least_grant)

pub returns-clause-few : goal.returns-clause-few
returns-clause-few c =
    omega (arith, (limits c.self.inside.parts c.self.invariant.ranges).least_grant)
