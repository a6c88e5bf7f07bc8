use Rattle.std.proofs.Common.{◌≡◌, ◌++◌, drop}
use Rattle.std.specs.Prelude.{slice_get}
use Rattle.book_audit.specs.Joined.{entries_of}
use Rattle.book_audit.proofs.receipts.entry_at.Given as goal

-- the place that is left, in the chapters that are left, is the place that is looked for
abbrev pub invariant-loop-chapter : goal.invariant-loop-chapter
invariant-loop-chapter l =
    slice_get (entries_of (drop l.chapter-index l.chapters) ++ l.rest) l.left
    ≡ slice_get (entries_of l.chapters ++ l.rest) l.place
