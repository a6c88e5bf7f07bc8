use Rattle.std.proofs.Common.{◌≡◌, ◌≤◌, vec_len, vec_capacity}
use Rattle.reply_queues.specs.Rings.{EachIsNewRing}
use Rattle.reply_queues.proofs.ring_set.rings.Given as goal

abbrev pub invariant-loop-ring : goal.invariant-loop-ring
invariant-loop-ring l = record {
  outlets : (vec_len l.outlets ≡ l._ring) × (l.n ≤ vec_capacity l.outlets);
  inlets : (vec_len l.inlets ≡ l._ring) × (l.n ≤ vec_capacity l.inlets);
  rings : EachIsNewRing l.capacity l.outlets.items l.inlets.items;
}
