use Rattle.std.proofs.Common.{◌++◌}
use Rattle.book_audit.specs.Joined.{entries_of}
use Rattle.book_audit.specs.Receipts.{AreGoodBelow}
use Rattle.book_audit.proofs.receipts.check_receipts.Given as goal

-- the receipts so far are good
abbrev pub invariant-loop-i : goal.invariant-loop-i
invariant-loop-i l = AreGoodBelow (entries_of l.chapters ++ l.rest) l.receipts l.i
