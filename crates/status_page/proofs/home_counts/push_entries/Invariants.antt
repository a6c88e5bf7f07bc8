use Rattle.std.proofs.Common.{◌≡◌, ◌++◌, drop}
use Rattle.std.specs.String.{string_bytes}
use Rattle.status_page.specs.HomeCounts.{entries_html}
use Rattle.status_page.proofs.home_counts.push_entries.Given as goal

-- what was written, with what is left to be written, is the whole text
abbrev pub invariant-loop-kind : goal.invariant-loop-kind
invariant-loop-kind l = string_bytes l.out ++ entries_html l.counts (drop l.kind-index l.kinds)
    ≡ string_bytes l.initial.out ++ entries_html l.counts l.kinds
