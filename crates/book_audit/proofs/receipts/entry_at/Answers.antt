use Rattle.std.proofs.Common.{◌≡◌, ◌<◌, ◌≤◌, ◌∙◌, List, get_or, length, subst}
use Rattle.books.specs.declared.book.Entry.{Entry}
use Rattle.book_audit.proofs.Places.{behind_chapter, in_chapter, in_rest}
use Rattle.book_audit.proofs.receipts.entry_at.Goals as goal

pub returns-then-left-entries : goal.returns-then-left-entries
returns-then-left-entries c =
    let l = c.loop-chapter in
    let items = c.entries-entries.ensures.entries in
    let e = c.index-entries-left.result in
    in_chapter c.args.chapters.now c.args.rest.now l.chapter-index l.left c.args.place l.invariant
    c.chapter-item.result c.loop-chapter-test.true c.chapter-item.is e
    (subst (λ (es : List Entry). l.left < length es) items c.if-left-entries.true)
    (subst (λ (es : List Entry). e ≡ get_or es l.left e) items c.index-entries-left.is)

pub loop-chapter-preserved : goal.loop-chapter-preserved
loop-chapter-preserved c =
    let l = c.loop-chapter in
    let items = c.entries-entries.ensures.entries in
    rw items
    (behind_chapter c.args.chapters.now c.args.rest.now l.chapter-index l.left c.args.place
    l.invariant c.chapter-item.result c.loop-chapter-test.true c.chapter-item.is
    (subst (λ (es : List Entry). length es ≤ l.left) items c.if-left-entries.false))

pub returns : goal.returns
returns c =
    let l = c.loop-chapter in
    c.entry_in.ensures
    ∙ in_rest c.args.chapters.now c.args.rest.now l.chapter-index l.left c.args.place l.invariant
    c.loop-chapter-test.false
