use Rattle.zone_config.proofs.RangesKept.{limits}
use Rattle.zone_config.proofs.config.Config.endpoints.Goals as goal

pub returns-clause-few : goal.returns-clause-few
returns-clause-few c = (limits c.self.inside.parts c.self.invariant.ranges).endpoints
