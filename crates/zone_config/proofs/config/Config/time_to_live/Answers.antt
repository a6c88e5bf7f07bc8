use Rattle.std.proofs.Common.{arith}
use Rattle.zone_config.proofs.RangesKept.{is_time, limits}
use Rattle.zone_config.proofs.config.Config.time_to_live.Goals as goal

pub overflow_cast-self-inside : goal.overflow_cast-self-inside
overflow_cast-self-inside c =
    omega (arith, (limits c.self.inside.parts c.self.invariant.ranges).time)

pub unwrap-requires : goal.unwrap-requires
unwrap-requires c =
    is_time c.self.inside.parts.time_to_live c.new.result c.new.ensures
    (limits c.self.inside.parts c.self.invariant.ranges).some_time
