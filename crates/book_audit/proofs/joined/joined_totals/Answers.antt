use Rattle.std.proofs.Common.{◌∙◌, ap, length, List, arith}
use Rattle.std.proofs.lemmas.List.{length-append}
use Rattle.books.specs.declared.book.Entry.{Entry}
use Rattle.books.specs.Totals.{totals_with}
use Rattle.ras_core.specs.Running.{Running}
use Rattle.book_audit.specs.Joined.{entries_of}
use Rattle.book_audit.proofs.Joining.{fair_chapters, fair_history, few_entries, few_in_all}
use Rattle.book_audit.proofs.Joining.{is_joined, lead_on, other_totals, whole_run, whole_totals}
use Rattle.book_audit.proofs.joined.joined_totals.Goals as goal

pub totals_in-totals-requires : goal.totals_in-totals-requires
totals_in-totals-requires g c =
    let l = lead_on c.args.chapters.now c.args.finished.now c.beginning-start.result.now
    c.base-base.result.now c.first.result c.do_lead.result c.beginning-start.ensures
    c.base-base.ensures c.first.ensures c.do_lead.ensures.runs
    c.do_lead.ensures.lead c.if-not-do_lead.false in
    few_entries l

pub returned_between-requires-clause-few : goal.returned_between-requires-clause-few
returned_between-requires-clause-few g c =
    let l = lead_on c.args.chapters.now c.args.finished.now c.beginning-start.result.now
    c.base-base.result.now c.first.result c.do_lead.result c.beginning-start.ensures
    c.base-base.ensures c.first.ensures c.do_lead.ensures.runs
    c.do_lead.ensures.lead c.if-not-do_lead.false in
    omega (arith, few_entries l, c.totals_in-totals.ensures.steps, c.totals_in-totals.ensures.units)

pub returned_between-requires-clause-fair : goal.returned_between-requires-clause-fair
returned_between-requires-clause-fair g c =
    let l = lead_on c.args.chapters.now c.args.finished.now c.beginning-start.result.now
    c.base-base.result.now c.first.result c.do_lead.result c.beginning-start.ensures
    c.base-base.ensures c.first.ensures c.do_lead.ensures.runs
    c.do_lead.ensures.lead c.if-not-do_lead.false in
    fair_chapters l c.totals_in-totals.result c.totals_in-totals.ensures.totals

pub returns-then-not-are_same-clause-none : goal.returns-then-not-are_same-clause-none
returns-then-not-are_same-clause-none g c =
    let l = lead_on c.args.chapters.now c.args.finished.now c.beginning-start.result.now
    c.base-base.result.now c.first.result c.do_lead.result c.beginning-start.ensures
    c.base-base.ensures c.first.ensures c.do_lead.ensures.runs
    c.do_lead.ensures.lead c.if-not-do_lead.false in
    let t = c.totals_in-totals.result in
    let sums = c.totals_in-totals.ensures.totals in
    let back = c.returned_between.result in
    let came = c.returned_between.ensures in
    other_totals l t sums back came c.carried.result c.are_same.result c.carried.ensures
    c.are_same.ensures c.if-not-are_same.true

pub totals_after-totals-requires-clause-steps : goal.totals_after-totals-requires-clause-steps
totals_after-totals-requires-clause-steps g c =
    let l = lead_on c.args.chapters.now c.args.finished.now c.beginning-start.result.now
    c.base-base.result.now c.first.result c.do_lead.result c.beginning-start.ensures
    c.base-base.ensures c.first.ensures c.do_lead.ensures.runs
    c.do_lead.ensures.lead c.if-not-do_lead.false in
    let run = c.entries.ensures.run in
    let all = few_in_all l run in
    let items = ap (λ (es : List Entry). length es) c.entries.ensures.entries in
    let both = length-append (entries_of c.args.chapters.now) c.args.finished.now.entries in
    omega (arith, all, both, items, c.totals_in-totals.ensures.steps)

pub returned_between-requires-2-clause-few : goal.returned_between-requires-2-clause-few
returned_between-requires-2-clause-few g c =
    let l = lead_on c.args.chapters.now c.args.finished.now c.beginning-start.result.now
    c.base-base.result.now c.first.result c.do_lead.result c.beginning-start.ensures
    c.base-base.ensures c.first.ensures c.do_lead.ensures.runs
    c.do_lead.ensures.lead c.if-not-do_lead.false in
    let run = c.entries.ensures.run in
    let all = few_in_all l run in
    let items = ap (λ (es : List Entry). length es) c.entries.ensures.entries in
    let both = length-append (entries_of c.args.chapters.now) c.args.finished.now.entries in
    omega (
      arith,
      all,
      both,
      items,
      c.totals_in-totals.ensures.steps,
      c.totals_after-totals.ensures.steps,
      c.totals_after-totals.ensures.units,
    )

pub returned_between-requires-2-clause-fair : goal.returned_between-requires-2-clause-fair
returned_between-requires-2-clause-fair g c =
    let l = lead_on c.args.chapters.now c.args.finished.now c.beginning-start.result.now
    c.base-base.result.now c.first.result c.do_lead.result c.beginning-start.ensures
    c.base-base.ensures c.first.ensures c.do_lead.ensures.runs
    c.do_lead.ensures.lead c.if-not-do_lead.false in
    let t = c.totals_in-totals.result in
    let sums = c.totals_in-totals.ensures.totals in
    let back = c.returned_between.result in
    let came = c.returned_between.ensures in
    let more = c.totals_after-totals.ensures.totals
    ∙ ap (λ (es : List Entry). totals_with (record t { returned = back }) es 0)
    c.entries.ensures.entries in
    let end = c.machine.ensures ∙ ap (λ (z : Running). z.state) c.zone.ensures in
    fair_history l t sums back came c.entries.ensures.run c.totals_after-totals.result more
    c.machine.result.now end

pub returns-clause-joined : goal.returns-clause-joined
returns-clause-joined g c =
    let l = lead_on c.args.chapters.now c.args.finished.now c.beginning-start.result.now
    c.base-base.result.now c.first.result c.do_lead.result c.beginning-start.ensures
    c.base-base.ensures c.first.ensures c.do_lead.ensures.runs
    c.do_lead.ensures.lead c.if-not-do_lead.false in
    let t = c.totals_in-totals.result in
    let sums = c.totals_in-totals.ensures.totals in
    let back = c.returned_between.result in
    let came = c.returned_between.ensures in
    is_joined l t sums back came c.carried.result c.are_same.result c.carried.ensures
    c.are_same.ensures c.if-not-are_same.false

pub returns-clause-run : goal.returns-clause-run
returns-clause-run g c =
    let l = lead_on c.args.chapters.now c.args.finished.now c.beginning-start.result.now
    c.base-base.result.now c.first.result c.do_lead.result c.beginning-start.ensures
    c.base-base.ensures c.first.ensures c.do_lead.ensures.runs
    c.do_lead.ensures.lead c.if-not-do_lead.false in
    whole_run l c.entries.ensures.run

pub returns-clause-totals : goal.returns-clause-totals
returns-clause-totals g c =
    let l = lead_on c.args.chapters.now c.args.finished.now c.beginning-start.result.now
    c.base-base.result.now c.first.result c.do_lead.result c.beginning-start.ensures
    c.base-base.ensures c.first.ensures c.do_lead.ensures.runs
    c.do_lead.ensures.lead c.if-not-do_lead.false in
    let t = c.totals_in-totals.result in
    let sums = c.totals_in-totals.ensures.totals in
    let back = c.returned_between.result in
    let came = c.returned_between.ensures in
    let more = c.totals_after-totals.ensures.totals
    ∙ ap (λ (es : List Entry). totals_with (record t { returned = back }) es 0)
    c.entries.ensures.entries in
    let end = c.machine.ensures ∙ ap (λ (z : Running). z.state) c.zone.ensures in
    whole_totals l t sums back came c.entries.ensures.run c.totals_after-totals.result more
    c.machine.result.now end c.returned_between-2.result c.returned_between-2.ensures
