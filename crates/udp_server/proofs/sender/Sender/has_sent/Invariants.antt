use Rattle.std.proofs.Common.{◌≡◌, ◌≤◌, ◌+◌, ◌<◌, [], ℕ, get_or}
use Rattle.std.specs.Prelude.{IsFalse, IsTrue}
use Rattle.reply_queues.specs.Rings.{datagrams_seen}
use Rattle.reply_queues.specs.declared.inlet.Inlet.{Inlet}
use Rattle.udp_server.specs.Sending.{AreSendsCounted, IsLookedAt, IsTaken, all_counted}
use Rattle.udp_server.proofs.sender.Sender.has_sent.Given as goal

-- If none was sent so far, none was seen in the rings so far, and none is counted; else one was
-- taken out of one of them. A ring counts once at most, and was looked at once, or is as it was.
abbrev pub invariant-loop-inlet : goal.invariant-loop-inlet
invariant-loop-inlet g l = record {
  looked : IsFalse l.is_any → (k : ℕ) (d : Inlet) → k < l.inlet-index
      → datagrams_seen (get_or l.inlets k d) ≡ [];
  taken : IsTrue l.is_any → (k : ℕ) × (k < l.inlet-index)
      × ((none : Inlet) → IsTaken (get_or l.fn.inlets k none) (get_or l.inlets k none));
  same : IsFalse l.is_any → l.self.sent ≡ l.fn.self.sent;
  each : (k : ℕ) (none : Inlet) → k < l.inlet-index
      → IsLookedAt (get_or l.fn.inlets k none) (get_or l.inlets k none);
  rest : (k : ℕ) (none : Inlet) → l.inlet-index ≤ k
      → get_or l.inlets k none ≡ get_or l.fn.inlets k none;
  once : all_counted l.self.sent ≤ all_counted l.fn.self.sent + l.inlet-index;
  counted : AreSendsCounted l.fn.inlets l.inlets l.fn.self.sent l.self.sent;
}
