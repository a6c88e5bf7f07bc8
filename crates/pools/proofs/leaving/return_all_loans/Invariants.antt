use Rattle.std.proofs.Common.{◌≡◌}
use Rattle.pools.specs.Members.{member_without_loans}
use Rattle.pools.proofs.Lists.{first_mapped}
use Rattle.pools.proofs.leaving.return_all_loans.Given as goal

abbrev pub invariant-loop-i : goal.invariant-loop-i
invariant-loop-i g l = l.set ≡ first_mapped member_without_loans l.i l.initial.set
