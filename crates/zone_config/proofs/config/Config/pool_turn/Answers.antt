use Rattle.zone_config.proofs.RangesKept.{limits}
use Rattle.zone_config.proofs.config.Config.pool_turn.Goals as goal

pub returns-clause-small : goal.returns-clause-small
returns-clause-small c = (limits c.self.inside.parts c.self.invariant.ranges).pool_turn
