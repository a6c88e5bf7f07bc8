use Rattle.pools.proofs.Totals.{total_loans-idle}
use Rattle.pools.proofs.laws.idle_pools_lend_nothing.Goals as goal

pub returns : goal.returns
returns c = total_loans-idle
