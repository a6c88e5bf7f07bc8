use Rattle.pools.proofs.InParts.{LentBefore}
use Rattle.pools.proofs.parts.lend_in_parts.Given as goal

abbrev pub invariant-loop-left : goal.invariant-loop-left
invariant-loop-left g l =
    LentBefore (g.P.Pool.account l.initial.pool) (g.P.Pool.account l.pool) l.units l.left l.loans

abbrev pub decreases-loop-left : goal.decreases-loop-left
decreases-loop-left g l = l.left
