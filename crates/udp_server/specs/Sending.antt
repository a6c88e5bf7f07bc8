-- What the sender does with a reply that it takes out of a ring.
use Rattle.std.specs.Prelude.{◌≡◌, ◌<◌, ◌+◌, ◌++◌, ◌∷◌, ◌⊎◌, ℕ, List, [], Ok, Err, get_or, length}
use Rattle.std.specs.Prelude.{sum_by}
use Rattle.reply_queues.specs.Rings.{datagrams_seen, datagrams_taken}
use Rattle.reply_queues.specs.declared.inlet.Inlet.{Inlet}
use Rattle.zone_events.specs.declared.outcome.Datagram.{Datagram}
use Rattle.udp_server.specs.declared.datagrams.DeviceFault.{DeviceFault}
use Rattle.udp_server.specs.declared.sender.SendCounts.{SendCounts}
use Rattle.udp_server.specs.Ends.{SendResult, count_after, fault_count}

-- a send went well, and is counted
abbrev pub sent_once_more : SendCounts → SendCounts
sent_once_more counts = record counts { replies = fault_count counts.replies }

-- a send failed, and is counted
abbrev pub failed_once_more : SendCounts → SendCounts
failed_once_more counts = record counts { faults = fault_count counts.faults }

-- how many sends are counted, of replies that were sent and of failed ones
abbrev pub all_counted : SendCounts → ℕ
all_counted counts = counts.replies + counts.faults

-- what a send of a reply gave
abbrev pub Sends : Type 1
Sends = Datagram → SendResult → Type 0

-- the end sent the reply and counts no failure, and the sender counts the reply as sent
pub record IsSent (sends : Sends) (reply : Datagram) (failures failures_then : ℕ)
    (counts counts_then : SendCounts) : Type 0 where
  pub given : sends reply (Ok tt)
  pub no_failure : failures_then ≡ failures
  pub counted : counts_then ≡ sent_once_more counts

-- the end failed to send the reply, and both count that
pub record IsFailureCounted (sends : Sends) (reply : Datagram) (failures failures_then : ℕ)
    (counts counts_then : SendCounts) : Type 0 where
  pub fault : DeviceFault
  pub given : sends reply (Err fault)
  pub counted_by_end : failures_then ≡ fault_count failures
  pub counted : counts_then ≡ failed_once_more counts

-- One send was made of this reply, and is counted: as sent or as failed, by what the end gave.
abbrev pub IsSendCounted : Sends → Datagram → ℕ → ℕ → SendCounts → SendCounts → Type 0
IsSendCounted sends reply failures failures_then counts counts_then =
    IsSent sends reply failures failures_then counts counts_then
    ⊎ IsFailureCounted sends reply failures failures_then counts counts_then

-- The reply that is taken out of the ring next, behind those that were taken before, was sent once
-- or failed to be sent, and is counted so.
pub record IsNextSent (sends : Sends) (taken taken_then : List Datagram)
    (failures failures_then : ℕ) (counts counts_then : SendCounts) : Type 0 where
  pub reply : Datagram
  pub next : taken_then ≡ taken ++ reply ∷ []
  pub counted : IsSendCounted sends reply failures failures_then counts counts_then

-- the next reply was taken out of a ring
abbrev pub IsTaken : Inlet → Inlet → Type 0
IsTaken old new = (reply : Datagram) × (datagrams_taken new ≡ datagrams_taken old ++ reply ∷ [])

-- A ring was looked at once: no reply was seen in it, and none was taken; or the next one was taken.
abbrev pub IsLookedAt : Inlet → Inlet → Type 0
IsLookedAt old new =
    ((datagrams_seen new ≡ []) × (datagrams_taken new ≡ datagrams_taken old)) ⊎ IsTaken old new

-- each of these rings was looked at once
abbrev pub AreLookedAt : List Inlet → List Inlet → Type 0
AreLookedAt old new =
    (k : ℕ) (none : Inlet) → k < length old → IsLookedAt (get_or old k none) (get_or new k none)

-- the next reply was taken out of at least one of these rings
abbrev pub IsAnyTaken : List Inlet → List Inlet → Type 0
IsAnyTaken old new =
    (k : ℕ) × (k < length old)
    × ((none : Inlet) → IsTaken (get_or old k none) (get_or new k none))

-- how many replies were taken out of these rings by now
abbrev pub taken_out_of : List Inlet → ℕ
taken_out_of rings = sum_by (λ inlet. length (datagrams_taken inlet)) rings

-- As many sends are counted as replies were taken out of these rings, each as sent or as failed.
pub record AreSendsCounted (old new : List Inlet) (counts counts_then : SendCounts) : Type 0 where
  pub sent : ℕ
  pub failed : ℕ
  pub each : taken_out_of new ≡ taken_out_of old + sent + failed
  pub replies : counts_then.replies ≡ count_after sent counts.replies
  pub faults : counts_then.faults ≡ count_after failed counts.faults
