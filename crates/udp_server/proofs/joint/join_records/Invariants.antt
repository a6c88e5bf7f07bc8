use Rattle.std.proofs.Common.{◌≡◌, ◌≤◌, ◌+◌, ◌++◌, map, min}
use Rattle.std.specs.Prelude.{flat_map, sum_by}
use Rattle.std.specs.Vec.Iter.{into_iter_items}
use Rattle.udp_server.specs.Ends.{most_count}
use Rattle.udp_server.specs.Joint.{joint_count}
use Rattle.udp_server.proofs.joint.join_records.Given as goal

-- what was joined so far, with what the workers left that are still to come
abbrev pub invariant-loop-worker : goal.invariant-loop-worker
invariant-loop-worker g l = record {
  seats : l.joint.seats.items ++ map (λ w. w.seat) (into_iter_items l.worker-iterator)
      ≡ map (λ w. w.seat) l.fn.workers.items;
  receipts : l.joint.receipts.items
      ++ flat_map (λ w. w.receipts.items) (into_iter_items l.worker-iterator)
      ≡ flat_map (λ w. w.receipts.items) l.fn.workers.items;
  chapters : l.joint.chapters.items
      ++ flat_map (λ w. w.chapters.items) (into_iter_items l.worker-iterator)
      ≡ flat_map (λ w. w.chapters.items) l.fn.workers.items;
  dropped : min (l.joint.counts.dropped
      + sum_by (λ w. w.counts.dropped) (into_iter_items l.worker-iterator)) most_count
      ≡ joint_count (λ w. w.counts.dropped) l.fn.workers.items;
  refused : min (l.joint.counts.refused
      + sum_by (λ w. w.counts.refused) (into_iter_items l.worker-iterator)) most_count
      ≡ joint_count (λ w. w.counts.refused) l.fn.workers.items;
  faults : min (l.joint.counts.faults
      + sum_by (λ w. w.counts.faults) (into_iter_items l.worker-iterator)) most_count
      ≡ joint_count (λ w. w.counts.faults) l.fn.workers.items;
  few : (l.joint.counts.dropped ≤ most_count) × (l.joint.counts.refused ≤ most_count)
      × (l.joint.counts.faults ≤ most_count);
}
