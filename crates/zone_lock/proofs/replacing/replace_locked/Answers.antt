use Rattle.std.proofs.Common.{arith, ap, sym, subst, List, [], ◌∷◌, ◌++◌, ◌∙◌}
use Rattle.pools.specs.declared.interface.Figures.{Figures}
use Rattle.zone_events.specs.declared.change.Change.{Change}
use Rattle.zone_events.specs.declared.change.Change.TheVariants as change
use Rattle.ras_core.specs.Runs.{RunningChange, RunningReplacement}
use Rattle.books.specs.declared.book.Entry.{Entry}
use Rattle.zone_lock.specs.Held.{entry_by}
use Rattle.zone_lock.proofs.Histories.{cut_so, inside_entered, room_for_more}
use Rattle.zone_lock.proofs.replacing.replace_locked.Goals as goal

pub with_step-locked-inside-requires-clause-steps :
    goal.with_step-locked-inside-requires-clause-steps
with_step-locked-inside-requires-clause-steps g c =
    (room_for_more _ _ _ _ _ _ _ _ c.locked.invariant.0).0

pub count-requires : goal.count-requires
count-requires g c = (room_for_more _ _ _ _ _ _ _ _ c.locked.invariant.0).1

pub invariant_of-locked-2 : goal.invariant_of-locked-2
invariant_of-locked-2 g c =
    let l = c.locked.inside in
    let made = c.replace_with_room in
    let what : Change = change.PoolChange (record {
      pool = c.args.pool;
      offered = c.figures_of.result;
      moment = c.args.moment;
    }) in
    let outcome = c.in_ok-outcome.outcome in
    let entry : Entry = entry_by c.args.seat.now.number c.args.seat.now.calls what outcome in
    let items = c.enter_replacement-receipt.ensures.entry
    ∙ ap (λ (es : List Entry). es ++ entry ∷ []) made.ensures.entries in
    let step : RunningChange l.zone what outcome made.new.zone =
    subst (λ (f : Figures). RunningReplacement l.zone (record {
      pool = c.args.pool;
      offered = f;
      moment = c.args.moment;
    }) outcome made.new.zone) (sym c.figures_of.ensures) c.in_ok-outcome.ensures.step in
    let next = c.with_step-locked-inside.ensures in (
      inside_entered g.D.Hall.opened
          (cut_so l.first l.carried l.base l.is_recorded l.entries.items l.zone) l.so_far
          c.with_step-locked-inside.result l.opened_units _ _ _ _ _ _ _ _ entry made.new.zone _
          items c.locked.invariant.0 step next.few next.datagrams next.turns next.lent
          next.returned next.changes c.count.ensures.datagrams c.count.ensures.turns
          c.count.ensures.lent c.count.ensures.changes,
      c.locked.invariant.1,
    )

pub returns-clause-kept : goal.returns-clause-kept
returns-clause-kept g c = (invariant_of-locked-2 g c).0.kept
