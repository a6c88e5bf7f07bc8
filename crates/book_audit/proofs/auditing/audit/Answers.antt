use Rattle.std.proofs.Common.{List, length, ◌++◌, subst}
use Rattle.books.specs.declared.book.Entry.{Entry}
use Rattle.book_audit.specs.Joined.{entries_of}
use Rattle.book_audit.specs.Receipts.{AreGoodBelow}
use Rattle.book_audit.proofs.WholeHistory.{are_told}
use Rattle.book_audit.proofs.auditing.audit.Goals as goal

pub returns-clause-receipts : goal.returns-clause-receipts
returns-clause-receipts g c =
    let all = length c.args.receipts.now in
    subst (λ (es : List Entry). AreGoodBelow (entries_of c.args.chapters.now ++ es)
    c.args.receipts.now all) c.entries.ensures.entries c.in_ok-check_receipts.ensures.ok

pub returns-clause-whole : goal.returns-clause-whole
returns-clause-whole g c many =
    are_told _ c.args.receipts.now (returns-clause-receipts g c) many
