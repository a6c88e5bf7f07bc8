use Rattle.std.proofs.Common.{drop}
use Rattle.book_audit.proofs.EntrySums.{IsSoFar}
use Rattle.book_audit.proofs.sums.totals_in.Given as goal

-- the totals of the chapters so far, and what is left of them
abbrev pub invariant-loop-chapter : goal.invariant-loop-chapter
invariant-loop-chapter l = IsSoFar l.chapters l.totals (drop l.chapter-index l.chapters)
