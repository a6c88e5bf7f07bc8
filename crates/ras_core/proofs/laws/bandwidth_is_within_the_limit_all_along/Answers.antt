use Rattle.ras_core.proofs.Lawful.{within_limit}
use Rattle.ras_core.proofs.laws.bandwidth_is_within_the_limit_all_along.Goals as goal

pub returns : goal.returns
returns c = within_limit
