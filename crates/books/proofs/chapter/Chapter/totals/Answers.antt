use Rattle.std.proofs.Common.{arith, ap, sym, ◌≡◌, ◌∙◌}
use Rattle.admission.specs.Calls.{in_use}
use Rattle.zone_tables.specs.Tables.{Tables}
use Rattle.ras_machine.specs.State.{State}
use Rattle.books.specs.Chapters.{ChapterValue}
use Rattle.books.specs.Totals.{lent_of}
use Rattle.books.specs.declared.totals.Totals.{Totals}
use Rattle.books.proofs.Spending.{book_is_fair}
use Rattle.books.proofs.chapter.Chapter.totals.Goals as goal

pub overflow_add-totals : goal.overflow_add-totals
overflow_add-totals c =
    omega (arith, c.total-before.type_inv, c.totals_of-totals.ensures.few, c.deref.ensures.len)

pub overflow_sub-totals : goal.overflow_sub-totals
overflow_sub-totals c =
    let before : c.total-before.result ≡ in_use c.self.inside.base.tables.calls =
    c.total-before.ensures.sum ∙ (ap in_use c.calls.ensures
    ∙ (ap (λ (t : Tables). in_use t.calls) c.tables.ensures
    ∙ ap (λ (s : State). in_use s.tables.calls)
    (c.machine.ensures.machine ∙ (c.base.ensures ∙ ap (λ (v : ChapterValue). v.base)
    (sym c.self.view_is))))) in
    let after : c.total-after.result ≡ in_use c.self.inside.end.tables.calls =
    c.total-after.ensures.sum ∙ (ap in_use c.calls-2.ensures
    ∙ (ap (λ (t : Tables). in_use t.calls) c.tables-2.ensures
    ∙ ap (λ (s : State). in_use s.tables.calls)
    (c.machine-2.ensures.machine ∙ (c.end.ensures ∙ ap (λ (v : ChapterValue). v.end)
    (sym c.self.view_is))))) in
    let lent = ap (λ (t : Totals). t.lent) c.totals_of-totals.ensures.totals in
    let items = ap lent_of c.deref.ensures.value in
    let fair = book_is_fair c.self.inside.base c.self.inside.end c.self.inside.entries.items
    c.self.invariant in
    omega (arith, before, after, lent, items, fair.units)
