-- As many sends are counted as replies were taken.
use Rattle.std.proofs.Common.{◌≡◌, ◌<◌, ◌+◌, ◌⊎◌, ◌∙◌, ◌++◌, ◌∷◌, [], ℕ, List, length, zero, suc}
use Rattle.std.proofs.Common.{arith, ap, get_or, inl, inr, refl, set, sym, zero-add}
use Rattle.std.proofs.Math.Nat.{suc-add}
use Rattle.std.proofs.lemmas.List.{length-append}
use Rattle.std.proofs.lemmas.List.Sums.{sum_by-set}
use Rattle.reply_queues.specs.Rings.{datagrams_taken}
use Rattle.reply_queues.specs.declared.inlet.Inlet.{Inlet}
use Rattle.zone_events.specs.declared.outcome.Datagram.{Datagram}
use Rattle.udp_server.specs.declared.sender.SendCounts.{SendCounts}
use Rattle.udp_server.specs.Ends.{count_after, fault_count}
use Rattle.udp_server.specs.Sending.{AreSendsCounted, IsNextSent, IsSendCounted, Sends}
use Rattle.udp_server.specs.Sending.{failed_once_more, sent_once_more}

-- to count more, and then some more, is to count all of them
count_after-add : (more before start : ℕ)
    → count_after (before + more) start ≡ count_after more (count_after before start)
count_after-add zero before start = ap (λ n. count_after n start) (omega arith)
count_after-add (suc more) before start =
    let one : before + suc more ≡ suc (before + more) = omega arith in
    ap (λ n. count_after n start) one ∙ ap fault_count (count_after-add more before start)

-- nothing was sent yet
pub none_yet : (rings : List Inlet) (counts : SendCounts)
    → AreSendsCounted rings rings counts counts
none_yet rings counts = record {
  sent = 0;
  failed = 0;
  each = omega arith;
  replies = refl;
  faults = refl;
}

-- no reply was taken out of a ring
pub if_none : (old new : Inlet) (counts counts_then : SendCounts)
    → datagrams_taken new ≡ datagrams_taken old → counts_then ≡ counts
    → AreSendsCounted (old ∷ []) (new ∷ []) counts counts_then
if_none old new counts counts_then none same = record {
  sent = 0;
  failed = 0;
  each = omega (arith, ap length none);
  replies = ap (λ (c : SendCounts). c.replies) same;
  faults = ap (λ (c : SendCounts). c.faults) same;
}

pub one_longer : (old new : List Datagram) (reply : Datagram) → new ≡ old ++ reply ∷ []
    → length new ≡ length old + 1
one_longer old new reply is =
    omega (arith, ap length is, length-append old (reply ∷ []))

pub of_one : (sends : Sends) (old new : Inlet) (reply : Datagram) (failures failures_then : ℕ)
    (counts counts_then : SendCounts)
    → length (datagrams_taken new) ≡ length (datagrams_taken old) + 1
    → IsSendCounted sends reply failures failures_then counts counts_then
    → AreSendsCounted (old ∷ []) (new ∷ []) counts counts_then
of_one sends old new reply failures failures_then counts counts_then longer (inl sent) = record {
  sent = 1;
  failed = 0;
  each = omega (arith, longer);
  replies = ap (λ (c : SendCounts). c.replies) sent.counted;
  faults = ap (λ (c : SendCounts). c.faults) sent.counted;
}
of_one sends old new reply failures failures_then counts counts_then longer (inr failed) = record {
  sent = 0;
  failed = 1;
  each = omega (arith, longer);
  replies = ap (λ (c : SendCounts). c.replies) failed.counted;
  faults = ap (λ (c : SendCounts). c.faults) failed.counted;
}

-- the next reply of a ring was taken out, and sent once
pub if_next : (sends : Sends) (old new : Inlet) (failures failures_then : ℕ)
    (counts counts_then : SendCounts)
    → IsNextSent sends (datagrams_taken old) (datagrams_taken new) failures failures_then counts
    counts_then
    → AreSendsCounted (old ∷ []) (new ∷ []) counts counts_then
if_next sends old new failures failures_then counts counts_then next =
    of_one sends old new next.reply failures failures_then counts counts_then
    (one_longer (datagrams_taken old) (datagrams_taken new) next.reply next.next) next.counted

-- what was counted of the first rings, and what is counted of the next one
pub with_next : (old so_far : List Inlet) (i : ℕ) (default after : Inlet)
    (start mid counts : SendCounts) → AreSendsCounted old so_far start mid → i < length so_far
    → AreSendsCounted (get_or so_far i default ∷ []) (after ∷ []) mid counts
    → AreSendsCounted old (set so_far i after) start counts
with_next old so_far i default after start mid counts before within next = record {
  sent = before.sent + next.sent;
  failed = before.failed + next.failed;
  each = omega (
    arith,
    before.each,
    next.each,
    sum_by-set (λ (inlet : Inlet). length (datagrams_taken inlet)) so_far i after default within,
  );
  replies = next.replies ∙ ap (count_after next.sent) before.replies
      ∙ sym (count_after-add next.sent before.sent start.replies);
  faults = next.faults ∙ ap (count_after next.failed) before.faults
      ∙ sym (count_after-add next.failed before.failed start.faults);
}
