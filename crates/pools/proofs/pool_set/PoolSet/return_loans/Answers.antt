use Rattle.std.proofs.Common.{arith, ap}
use Rattle.pools.specs.Account.{Account}
use Rattle.pools.proofs.Changing.{nothing_to_return}
use Rattle.pools.proofs.pool_set.PoolSet.return_loans.Goals as goal

pub returns-else-n-gt0 : goal.returns-else-n-gt0
returns-else-n-gt0 g c =
    nothing_to_return _ _ (omega (
      arith,
      c.if-n-gt0.false,
      c.lent-n.ensures.value,
      ap (λ (a : Account). a.figures.lent) c.pool.ensures,
    ))
