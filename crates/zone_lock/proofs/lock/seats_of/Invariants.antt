use Rattle.std.proofs.Common.{◌≡◌, ◌+◌, ◌<◌, ◌≤◌, ℕ, Some, slice_get, vec_len, vec_capacity}
use Rattle.zone_lock.specs.Seats.{seated}
use Rattle.zone_lock.proofs.lock.seats_of.Given as goal

-- as many parts are left as seats are still to come
abbrev pub invariant-loop-number : goal.invariant-loop-number
invariant-loop-number g l = record {
  datagrams : (l.my_datagrams.parts + l.number ≡ l.seats) × (l.my_datagrams.amount ≡ 0);
  turns : (l.my_turns.parts + l.number ≡ l.seats) × (l.my_turns.amount ≡ 0);
  lent : (l.my_lent.parts + l.number ≡ l.seats) × (l.my_lent.amount ≡ 0);
  changes : (l.my_changes.parts + l.number ≡ l.seats) × (l.my_changes.amount ≡ 0);
  len : vec_len l.all ≡ l.number;
  room : l.seats ≤ vec_capacity l.all;
  made : (k : ℕ) → k < l.number → slice_get l.all.items k ≡ Some (seated k 0 0 0 0 0);
}
