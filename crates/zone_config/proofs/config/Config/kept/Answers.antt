use Rattle.zone_config.proofs.RangesKept.{limits}
use Rattle.zone_config.proofs.config.Config.kept.Goals as goal

pub returns-clause-some : goal.returns-clause-some
returns-clause-some c = (limits c.self.inside.parts c.self.invariant.ranges).some_kept

pub returns-clause-few : goal.returns-clause-few
returns-clause-few c = (limits c.self.inside.parts c.self.invariant.ranges).kept
