use Rattle.std.proofs.Common.{◌∷◌, ◌++◌, ◌∙◌, List, [], ap, arith, subst, sym}
use Rattle.zone_events.specs.declared.change.Change.{Change}
use Rattle.zone_tables.proofs.Answered.{on_ok}
use Rattle.ras_core.specs.Runs.{RunningChange}
use Rattle.books.specs.Totals.{changes_of_kind, datagrams_of_kind, turns_of_kind}
use Rattle.books.specs.declared.book.Entry.{Entry}
use Rattle.zone_lock.specs.Held.{entry_by}
use Rattle.zone_lock.proofs.Histories.{cut_so, inside_entered, room_for_more}
use Rattle.zone_lock.proofs.locked.enter_step.Goals as goal

pub with_step-locked-inside-requires-clause-steps :
    goal.with_step-locked-inside-requires-clause-steps
with_step-locked-inside-requires-clause-steps g c =
    (room_for_more _ _ _ _ _ _ _ _ c.locked.invariant.0).0

pub count-requires : goal.count-requires
count-requires g c = (room_for_more _ _ _ _ _ _ _ _ c.locked.invariant.0).1

pub invariant_of-locked-2 : goal.invariant_of-locked-2
invariant_of-locked-2 g c =
    let l = c.locked.inside in
    let made = c.step_with_room in
    let outcome = made.new.outcome in
    let entry : Entry = entry_by c.args.seat.now.number c.args.seat.now.calls c.args.order.kept
    outcome in
    let items = c.enter.ensures.entry
    ∙ ap (λ (es : List Entry). es ++ entry ∷ []) made.ensures.entries in
    let step : RunningChange l.zone c.args.order.kept outcome made.new.zone =
    subst (λ (e : Change). RunningChange l.zone e outcome made.new.zone) (sym c.requires.kept)
    (on_ok made.result c.in_ok-step_with_room.field-0 c.in_ok-step_with_room.was
    made.ensures.step) in
    let next = c.with_step-locked-inside.ensures in
    let kind = c.of-kind.ensures in
    let datagrams = ap datagrams_of_kind kind in
    let turns = ap turns_of_kind kind in
    let changes = ap changes_of_kind kind in (
      inside_entered g.D.Hall.opened
          (cut_so l.first l.carried l.base l.is_recorded l.entries.items l.zone) l.so_far
          c.with_step-locked-inside.result l.opened_units _ _ _ _ _ _ _ _ entry made.new.zone _
          items c.locked.invariant.0 step next.few
          (omega (arith, next.datagrams, datagrams))
          (omega (arith, next.turns, turns))
          next.lent next.returned
          (omega (arith, next.changes, changes))
          (omega (arith, c.count.ensures.datagrams, datagrams))
          (omega (arith, c.count.ensures.turns, turns))
          c.count.ensures.lent
          (omega (arith, c.count.ensures.changes, changes)),
      c.locked.invariant.1,
    )

pub returns-clause-kept : goal.returns-clause-kept
returns-clause-kept g c = (invariant_of-locked-2 g c).0.kept
