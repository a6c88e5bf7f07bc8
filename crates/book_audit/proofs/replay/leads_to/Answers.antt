use Rattle.std.proofs.Common.{◌≡◌, ◌<◌, ◌≤◌, List, length, get_or, rules, subst}
use Rattle.books.specs.declared.book.Entry.{Entry}
use Rattle.book_audit.proofs.Remaining.{at_end, at_first, goes_on, stops}
use Rattle.book_audit.proofs.replay.leads_to.Goals as goal

pub loop-entry-init : goal.loop-entry-init
loop-entry-init c =
    at_first c.args.book.now.base c.into_machine-machine.result c.args.book.now.entries.items
    (search rules) c.into_machine-machine.ensures.sound

pub returns-then-not-is_step : goal.returns-then-not-is_step
returns-then-not-is_step c =
    let l = c.loop-entry in
    let all = c.args.book.now.entries.items in
    let items = c.deref-entry-items.ensures.value in
    let below = subst (λ (es : List Entry). l.entry-index < length es) items
    c.loop-entry-test.true in
    let is = subst (λ (es : List Entry). c.entry-item.result
    ≡ get_or es l.entry-index c.entry-item.result) items c.entry-item.is in (
      λ h. absurd (cc h),
      λ run. absurd (stops c.args.book.now.base l.machine c.redo.new.machine all l.entry-index
          c.entry-item.result below is l.invariant c.in_ok-is_step.is_step c.if-not-is_step.true
          c.in_ok-is_step.ensures.redoes c.args.end.now run),
    )

pub loop-entry-preserved : goal.loop-entry-preserved
loop-entry-preserved c =
    let l = c.loop-entry in
    let all = c.args.book.now.entries.items in
    let items = c.deref-entry-items.ensures.value in
    let below = subst (λ (es : List Entry). l.entry-index < length es) items
    c.loop-entry-test.true in
    let is = subst (λ (es : List Entry). c.entry-item.result
    ≡ get_or es l.entry-index c.entry-item.result) items c.entry-item.is in
    goes_on c.args.book.now.base l.machine c.redo.new.machine all l.entry-index c.entry-item.result
    below is l.invariant c.in_ok-is_step.is_step c.if-not-is_step.false
    c.in_ok-is_step.ensures.redoes c.redo.ensures.sound

pub returns : goal.returns
returns c =
    let l = c.loop-entry in
    let all = c.args.book.now.entries.items in
    let past = subst (λ (es : List Entry). length es ≤ l.entry-index)
    c.deref-entry-items.ensures.value
    c.loop-entry-test.false in
    at_end c.args.book.now.base l.machine c.args.end.now all l.entry-index past l.invariant
    c.is_same.result c.is_same.ensures
