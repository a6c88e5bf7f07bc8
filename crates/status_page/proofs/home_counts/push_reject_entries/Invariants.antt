use Rattle.std.proofs.Common.{◌≡◌, ◌++◌, drop}
use Rattle.std.specs.String.{string_bytes}
use Rattle.status_page.specs.HomeCounts.{reject_entries}
use Rattle.status_page.proofs.home_counts.push_reject_entries.Given as goal

-- what was written, with what is left to be written, is the whole text
abbrev pub invariant-loop-reject : goal.invariant-loop-reject
invariant-loop-reject l = string_bytes l.out ++ reject_entries l.counts (drop l.reject-index l.rejects)
    ≡ string_bytes l.initial.out ++ reject_entries l.counts l.rejects
