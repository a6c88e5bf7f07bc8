use Rattle.std.proofs.Common.{◌≡◌, drop}
use Rattle.status_page.specs.HomeCounts.{is_none_rejected}
use Rattle.status_page.proofs.home_counts.is_none_rejected.Given as goal

-- what is left says what all say, since none of those before came
abbrev pub invariant-loop-reject : goal.invariant-loop-reject
invariant-loop-reject l = is_none_rejected l.counts (drop l.reject-index l.rejects)
    ≡ is_none_rejected l.counts l.rejects
