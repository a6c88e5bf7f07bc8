use Rattle.std.proofs.Common.{arith, ap, false, refl, subst, sym, ◌∙◌, ◌+◌, ◌-◌}
use Rattle.zone_events.specs.declared.change.Change.TheVariants as change
use Rattle.zone_tables.proofs.Answered.{on_ok}
use Rattle.books.specs.Totals.{changes_of_kind, datagrams_of_kind, turns_of_kind}
use Rattle.books.specs.declared.totals.Totals.{Totals}
use Rattle.zone_lock.specs.Held.{Held, IsEntered, entry_by, goes_on}
use Rattle.zone_lock.specs.Seats.{Seated}
use Rattle.zone_lock.proofs.Histories.{cut_so, room_for_more}
use Rattle.zone_lock.proofs.Steps.{backed_on, entered_unrecorded, inside_unrecorded, none_if_off}
use Rattle.zone_lock.proofs.stepping.step_locked.Goals as goal

pub with_step-locked-inside-requires-clause-steps :
    goal.with_step-locked-inside-requires-clause-steps
with_step-locked-inside-requires-clause-steps g c =
    (room_for_more _ _ _ _ _ _ _ _ c.locked.invariant.0).0

pub overflow_sub-locked : goal.overflow_sub-locked
overflow_sub-locked g c =
    let l = c.locked.inside in
    let entry = entry_by c.args.seat.now.number c.args.seat.now.calls
    (change.Event c.args.prepared) c.step_into.new.outcome in
    let step = on_ok c.step_into.result c.in_ok-step_into.field-0 c.in_ok-step_into.was
    c.step_into.ensures.step in
    let backed = backed_on g.D.Hall.opened
    (cut_so l.first l.carried l.base l.is_recorded l.entries.items l.zone) l.so_far
    c.with_step-locked-inside.result l.opened_units _ _ _ _ entry c.step_into.new.self
    c.locked.invariant.0 step c.with_step-locked-inside.ensures.lent in
    omega (arith, backed, c.in_use.ensures.sum)

pub count-requires : goal.count-requires
count-requires g c = (room_for_more _ _ _ _ _ _ _ _ c.locked.invariant.0).1

pub invariant_of-locked-2 : goal.invariant_of-locked-2
invariant_of-locked-2 g c =
    let l = c.locked.inside in
    let next = c.with_step-locked-inside in
    let entry = entry_by c.args.seat.now.number c.args.seat.now.calls
    (change.Event c.args.prepared) c.step_into.new.outcome in
    let step = on_ok c.step_into.result c.in_ok-step_into.field-0 c.in_ok-step_into.was
    c.step_into.ensures.step in
    let carried : Totals = record {
      datagrams = next.result.datagrams;
      turns = next.result.turns;
      lent = next.result.lent;
      returned = l.opened_units + next.result.lent - c.in_use.result;
      changes = next.result.changes;
    } in
    let kind = c.of_prepared-kind.ensures in
    let datagrams = ap datagrams_of_kind kind in
    let turns = ap turns_of_kind kind in
    let changes = ap changes_of_kind kind in
    let off = ap (λ (h : Held). goes_on h) c.locked.view_is
    ∙ (sym c.goes_on.ensures ∙ c.if-goes_on.false) in (
      inside_unrecorded g.D.Hall.opened
          (cut_so l.first l.carried l.base l.is_recorded l.entries.items l.zone) l.so_far next.result carried
          l.opened_units _ _ _ _ _ _ _ _ entry c.step_into.new.self c.locked.invariant.0 step
          next.ensures.few
          (omega (arith, next.ensures.datagrams, datagrams))
          (omega (arith, next.ensures.turns, turns))
          next.ensures.lent next.ensures.returned
          (omega (arith, next.ensures.changes, changes))
          (omega (arith, c.count.ensures.datagrams, datagrams))
          (omega (arith, c.count.ensures.turns, turns))
          c.count.ensures.lent
          (omega (arith, c.count.ensures.changes, changes))
          refl refl refl
          (ap (λ n. l.opened_units + next.result.lent - n) c.in_use.ensures.sum)
          refl _ l.base c.clear.new.self.items
          (omega (arith, c.len.ensures, l.entries.ok.0))
          (none_if_off l.base l.is_recorded _ c.locked.invariant.0.kept.copied off)
          c.clear.ensures.items,
      c.locked.invariant.1,
    )

pub returns-clause-entered : goal.returns-clause-entered
returns-clause-entered g c =
    let l = c.locked.inside in
    let next = c.with_step-locked-inside in
    let entry = entry_by c.args.seat.now.number c.args.seat.now.calls
    (change.Event c.args.prepared) c.step_into.new.outcome in
    let step = on_ok c.step_into.result c.in_ok-step_into.field-0 c.in_ok-step_into.was
    c.step_into.ensures.step in
    let carried : Totals = record {
      datagrams = next.result.datagrams;
      turns = next.result.turns;
      lent = next.result.lent;
      returned = l.opened_units + next.result.lent - c.in_use.result;
      changes = next.result.changes;
    } in
    let kind = c.of_prepared-kind.ensures in
    let datagrams = ap datagrams_of_kind kind in
    let turns = ap turns_of_kind kind in
    let changes = ap changes_of_kind kind in
    let off = ap (λ (h : Held). goes_on h) c.locked.view_is
    ∙ (sym c.goes_on.ensures ∙ c.if-goes_on.false) in
    let no_base = none_if_off l.base l.is_recorded _ c.locked.invariant.0.kept.copied off in
    let new = cut_so (l.first + c.len.result + 1) carried l.base false c.clear.new.self.items
    c.step_into.new.self in
    subst (λ (h : Held). IsEntered g.D.Hall.opened h entry new) c.locked.view_is
    (entered_unrecorded g.D.Hall.opened
    (cut_so l.first l.carried l.base l.is_recorded l.entries.items l.zone) l.so_far next.result carried
    l.opened_units _ _ _ _ c.count.new.self.datagrams.total c.count.new.self.turns.total
    c.count.new.self.lent.total c.count.new.self.changes.total entry c.step_into.new.self
    c.locked.invariant.0 step
    next.ensures.few
    (omega (arith, next.ensures.datagrams, datagrams))
    (omega (arith, next.ensures.turns, turns))
    next.ensures.lent next.ensures.returned
    (omega (arith, next.ensures.changes, changes))
    (omega (arith, c.count.ensures.datagrams, datagrams))
    (omega (arith, c.count.ensures.turns, turns))
    c.count.ensures.lent
    (omega (arith, c.count.ensures.changes, changes))
    refl refl refl
    (ap (λ n. l.opened_units + next.result.lent - n) c.in_use.ensures.sum)
    refl (l.first + c.len.result + 1) l.base c.clear.new.self.items
    (omega (arith, c.len.ensures, l.entries.ok.0))
    no_base c.clear.ensures.items off)

pub returns-clause-kept : goal.returns-clause-kept
returns-clause-kept g c = (invariant_of-locked-2 g c).0.kept
