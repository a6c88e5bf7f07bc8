use Rattle.registrations.specs.inside.Stored.{IsIn}
use Rattle.registrations.proofs.Walks.{Walks}
use Rattle.registrations.proofs.table.Registrations.has_all.Given as goal

abbrev pub invariant-loop-place : goal.invariant-loop-place
invariant-loop-place l =
    (goal.iterator-loop-place).can_next l._place-iterator
    × (goal.iterator-loop-place).is_finite l._place-iterator
    × Walks l.rows l._place-iterator (IsIn l.self.live)
