use Rattle.std.proofs.Common.{◌≡◌, ◌∙◌, sym, rules}
use Rattle.std.specs.Prelude.{slice_get, Some, ◌++◌}
use Rattle.book_audit.specs.Joined.{entries_of}
use Rattle.book_audit.specs.Receipts.{receipt_entry}
use Rattle.book_audit.proofs.GoodReceipts.{not_taken, overtaken, taken}
use Rattle.book_audit.proofs.receipts.receipt_fault.Goals as goal

pub returns-then-is_taken : goal.returns-then-is_taken
returns-then-is_taken c =
    let r = c.args.receipt.now in
    let there : slice_get (entries_of c.args.chapters.now ++ c.args.rest.now) r.place
    ≡ Some (receipt_entry r) = search rules in
    (there, taken c.args.earlier.now r.place (sym c.is_taken.ensures ∙ c.if-is_taken.true))

pub returns-then-is_overtaken : goal.returns-then-is_overtaken
returns-then-is_overtaken c =
    let r = c.args.receipt.now in
    let there : slice_get (entries_of c.args.chapters.now ++ c.args.rest.now) r.place
    ≡ Some (receipt_entry r) = search rules in
    let earlier = c.args.earlier.now in
    let once = not_taken earlier r.place (sym c.is_taken.ensures ∙ c.if-is_taken.false) in
    (there, once, overtaken earlier r (sym c.is_overtaken.ensures ∙ c.if-is_overtaken.true))
