use Rattle.std.proofs.Common.{◌≡◌, ◌+◌, vec_len, sum_by}
use Rattle.zone_lock.proofs.lock.merged.Given as goal

-- what was merged and what is still to come is what there was
abbrev pub invariant-loop-seat : goal.invariant-loop-seat
invariant-loop-seat g l = record {
  datagrams : (l.datagrams.parts + vec_len l.seats ≡ vec_len l.fn.seats)
      × (l.datagrams.amount + sum_by (λ s. s.datagrams) l.seats.items
      ≡ sum_by (λ s. s.datagrams) l.fn.seats.items);
  turns : (l.turns.parts + vec_len l.seats ≡ vec_len l.fn.seats)
      × (l.turns.amount + sum_by (λ s. s.turns) l.seats.items
      ≡ sum_by (λ s. s.turns) l.fn.seats.items);
  lent : (l.lent.parts + vec_len l.seats ≡ vec_len l.fn.seats)
      × (l.lent.amount + sum_by (λ s. s.lent) l.seats.items
      ≡ sum_by (λ s. s.lent) l.fn.seats.items);
  changes : (l.changes.parts + vec_len l.seats ≡ vec_len l.fn.seats)
      × (l.changes.amount + sum_by (λ s. s.changes) l.seats.items
      ≡ sum_by (λ s. s.changes) l.fn.seats.items);
}

abbrev pub decreases-loop-seat : goal.decreases-loop-seat
decreases-loop-seat g l = goal.left-loop-seat g l
