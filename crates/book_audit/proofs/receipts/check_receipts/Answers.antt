use Rattle.std.proofs.Common.{arith, ◌++◌}
use Rattle.book_audit.specs.Joined.{entries_of}
use Rattle.book_audit.proofs.GoodReceipts.{good_more}
use Rattle.book_audit.proofs.receipts.check_receipts.Goals as goal

pub loop-i-preserved : goal.loop-i-preserved
loop-i-preserved c =
    good_more (entries_of c.args.chapters.now ++ c.args.rest.now) c.args.receipts.now c.loop-i.i
    c.index-receipts-i.result c.loop-i-test.true c.index-receipts-i.is c.loop-i.invariant
    c.in_default.ensures

pub returns-clause-ok : goal.returns-clause-ok
returns-clause-ok c =
    λ k r below at. c.loop-i.invariant k r (let end = c.loop-i-test.false in omega arith) at
