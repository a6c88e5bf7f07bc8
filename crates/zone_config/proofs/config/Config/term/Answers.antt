use Rattle.std.proofs.Common.{arith}
use Rattle.zone_config.proofs.RangesKept.{limits}
use Rattle.zone_config.proofs.config.Config.term.Goals as goal

pub returns-clause-some : goal.returns-clause-some
returns-clause-some c = (limits c.self.inside.parts c.self.invariant.ranges).some_retries

pub overflow_add-result : goal.overflow_add-result
overflow_add-result c =
    omega (
      arith,
      (limits c.self.inside.parts c.self.invariant.ranges).window,
      c.milliseconds-start.ensures.small,
    )

pub overflow_add-result-2 : goal.overflow_add-result-2
overflow_add-result-2 c =
    omega (
      arith,
      (limits c.self.inside.parts c.self.invariant.ranges).delay,
      c.milliseconds-start.ensures.small,
    )
