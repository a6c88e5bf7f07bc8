use Rattle.std.proofs.Common.{◌≡◌, ◌<◌, ℕ, true, map}
use Rattle.registrations.specs.Numbers.{number_of}
use Rattle.registrations.proofs.Covering.{has_number, number_at, used}
use Rattle.registrations.proofs.fresh.unused_from.Given as goal

abbrev pub invariant-loop-tries : goal.invariant-loop-tries
invariant-loop-tries l = (l.number ≡ number_at l.start l._tries)
    × ((k : ℕ) → k < l._tries
    → has_number (map number_of (used l.table.order l.taken)) (number_at l.start k) ≡ true)
