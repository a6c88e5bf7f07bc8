use Rattle.std.proofs.Common.{◌+◌, ◌∙◌, List, drop, length, sym, subst}
use Rattle.books.specs.declared.book.Entry.{Entry}
use Rattle.book_audit.proofs.Leading.{IsLeft, goes_on}
use Rattle.book_audit.proofs.joined.do_lead.Goals as goal

pub loop-chapter-preserved : goal.loop-chapter-preserved
loop-chapter-preserved c =
    let l = c.loop-chapter in
    let chapter = c.chapter-item.result in
    let rest = drop (l.chapter-index + 1) c.args.chapters.now in
    let base = sym c.base.ensures
    ∙ (sym c.machine.ensures.machine ∙ c.is_same.ensures.0 c.if-not-is_same.false) in
    let start = c.args.start.now in
    let all = c.args.chapters.now in
    let on = goes_on start l.state.now all l.place l.chapter-index chapter
    c.loop-chapter-test.true c.chapter-item.is l.invariant
    (sym c.first.ensures ∙ c.if-first-place.false) base c.entries.ensures.run in
    subst (λ s. IsLeft start all (l.place + length c.entries.result.now) s rest)
    (sym (c.machine-end.ensures.machine ∙ c.end.ensures))
    (subst (λ (es : List Entry). IsLeft start all (l.place + length es) chapter.end rest)
    (sym c.entries.ensures.entries) on)
