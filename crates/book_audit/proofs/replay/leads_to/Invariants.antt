use Rattle.std.proofs.Common.{drop}
use Rattle.book_audit.proofs.Remaining.{IsLeft}
use Rattle.book_audit.proofs.replay.leads_to.Given as goal

-- the entries from here on lead to where the book leads
abbrev pub invariant-loop-entry : goal.invariant-loop-entry
invariant-loop-entry l =
    IsLeft l.book.base l.book.entries.items l.machine (drop l.entry-index l.book.entries.items)
