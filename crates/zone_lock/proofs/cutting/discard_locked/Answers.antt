use Rattle.std.proofs.Common.{ap, sym, refl, subst, ℕ, List, length, ◌∙◌, ◌+◌, ◌-◌}
use Rattle.std.specs.Prelude.{Option, false}
use Rattle.ras_machine.specs.State.{State}
use Rattle.books.specs.declared.book.Entry.{Entry}
use Rattle.books.specs.declared.totals.Totals.{Totals}
use Rattle.zone_lock.specs.Held.{IsInside}
use Rattle.zone_lock.proofs.Histories.{cut_so, inside_cut}
use Rattle.zone_lock.proofs.cutting.discard_locked.Goals as goal

pub invariant_of-locked : goal.invariant_of-locked
invariant_of-locked g c =
    let l = c.locked.inside in
    let carried : Totals = record {
      datagrams = l.so_far.datagrams;
      turns = l.so_far.turns;
      lent = l.so_far.lent;
      returned = l.opened_units + l.so_far.lent - c.in_use.result;
      changes = l.so_far.changes;
    } in
    let h = cut_so l.first l.carried l.base l.is_recorded l.entries.items l.zone in
    let cut = inside_cut g.D.Hall.opened h l.so_far carried l.opened_units _ _ _ _
    c.locked.invariant.0 refl refl refl
    (ap (λ (n : ℕ). l.opened_units + l.so_far.lent - n) c.in_use.ensures.sum) refl in
    let base_is = c.taken_out.ensures.base.1 in
    let entries_are = ap (λ v. v.items) c.taken_out.ensures.entries.1 ∙ c.requires in
    let first_is = ap (λ (n : ℕ). l.first + n) (c.len.ensures ∙ l.entries.ok.0) in (
      subst (λ (n : ℕ). IsInside g.D.Hall.opened
          (cut_so n carried c.taken_out.new.base false c.taken_out.new.entries.items l.zone) carried
          l.opened_units l.ledgers.datagrams.total l.ledgers.turns.total l.ledgers.lent.total
          l.ledgers.changes.total)
          (sym first_is)
          (subst (λ (s : Option State). IsInside g.D.Hall.opened
          (cut_so (l.first + length l.entries.items) carried s false c.taken_out.new.entries.items
          l.zone)
          carried l.opened_units l.ledgers.datagrams.total l.ledgers.turns.total
          l.ledgers.lent.total
          l.ledgers.changes.total)
          (sym base_is)
          (subst (λ (es : List Entry). IsInside g.D.Hall.opened
          (cut_so (l.first + length l.entries.items) carried _ false es l.zone) carried
          l.opened_units l.ledgers.datagrams.total l.ledgers.turns.total l.ledgers.lent.total
          l.ledgers.changes.total)
          (sym entries_are) cut)),
      c.locked.invariant.1,
    )

pub returns-clause-kept : goal.returns-clause-kept
returns-clause-kept g c = (invariant_of-locked g c).0.kept
