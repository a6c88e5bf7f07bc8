use Rattle.std.proofs.Common.{arith, inl, refl, sym, ◌∙◌}
use Rattle.zone_lock.proofs.Histories.{inside_opened}
use Rattle.zone_lock.proofs.lock.ZoneLock.open.Goals as goal
use Rattle.zone_lock.proofs.lock.ZoneLock.open.Goals.{then-seats-eq0-via-then-seats-eq0}
use Rattle.zone_lock.proofs.lock.ZoneLock.open.Goals.{then-seats-eq0-via-else-seats-eq0+then-seats-gt16}

pub returns-then-seats-eq0-clause-fault : goal.returns-then-seats-eq0-clause-fault
returns-then-seats-eq0-clause-fault g c = inl (
  refl,
  λ range. elim c.then-seats-eq0.branch [
    | then-seats-eq0-via-then-seats-eq0 w ↦ omega (arith, range.some, w.if-seats-eq0.true)
    | then-seats-eq0-via-else-seats-eq0+then-seats-gt16 w ↦
        omega (arith, range.most, w.if-seats-gt16.true)
  ],
)

pub invariant_of-locked : goal.invariant_of-locked
invariant_of-locked g c = (
  inside_opened g.D.Hall.opened c.args.zone c.in-Ok.base c.new.result.items c.none.result
      c.none-2.result c.in_use.result _ _ _ _ c.requires.opened.1 c.in-Ok.ensures.sound
      c.in-Ok.ensures.base c.new.ensures.items c.none.ensures c.none-2.ensures c.in_use.ensures.sum
      c.seats_of-ledgers.ensures.datagrams c.seats_of-ledgers.ensures.turns
      c.seats_of-ledgers.ensures.lent c.seats_of-ledgers.ensures.changes,
  record {
    datagrams = c.requires.datagrams.2 ∙ sym c.requires.opened.0;
    turns = c.requires.turns.2 ∙ sym c.requires.opened.0;
    lent = c.requires.lent.2 ∙ sym c.requires.opened.0;
    changes = c.requires.changes.2 ∙ sym c.requires.opened.0;
  },
)
