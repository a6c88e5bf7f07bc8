-- What is due at a moment. A registration that is not renewed ends with its time to live (H.225.0,
-- timeToLive). An endpoint that takes part in a call and is silent is asked for a sign of life, and
-- loses its legs if none comes (H.323, 8.4.2, status). A request that was told to wait is served
-- again, and a reply is kept for a limited time (H.225.0, RAS timers and request in progress).
use Rattle.std.specs.Prelude.{◌≤◌, ℕ, Bool, nat_le}
use Rattle.admission.specs.Calls.{OpenCalls}
use Rattle.kept_replies.specs.Kept.{KeptReplies, Passes, is_over, is_retry}
use Rattle.registrations.specs.Registry.{Live}
use Rattle.registrations.specs.Silence.{is_silent, is_to_be_asked}
use Rattle.registrations.specs.declared.registration.Registration.{Registration}
use Rattle.registrations.specs.declared.times.Times.{Times}
use Rattle.zone_events.specs.declared.due_item.DueItem.{DueItem}
use Rattle.zone_events.specs.declared.due_item.DueItem.TheVariants.{RegistrationOver, Interrogate}
use Rattle.zone_events.specs.declared.due_item.DueItem.TheVariants.{Silent, Retry}
use Rattle.zone_events.specs.declared.due_item.DueItem.TheVariants.{KeptOver, PoolTurn}
use Rattle.zone_tables.specs.EndpointsDue.{IsInCall, IsLiveAnd}

-- the time to live is over
abbrev pub is_deadline_past : ℕ → Registration → Bool
is_deadline_past now r = nat_le r.deadline now

-- the item is due now; the pools' next turn is at the moment `next`
abbrev pub IsDue : ℕ → ℕ → Times → Live → OpenCalls → KeptReplies → DueItem → Type 0
IsDue now next times live calls kept (RegistrationOver id) =
    IsLiveAnd (is_deadline_past now) live id
IsDue now next times live calls kept (Interrogate id) =
    IsInCall calls id × IsLiveAnd (is_to_be_asked times now) live id
IsDue now next times live calls kept (Silent id) =
    IsInCall calls id × IsLiveAnd (is_silent times now) live id
IsDue now next times live calls kept (Retry born) = Passes (is_retry now) kept born
IsDue now next times live calls kept (KeptOver born) = Passes (is_over now) kept born
IsDue now next times live calls kept PoolTurn = next ≤ now

-- nothing is due now
abbrev pub IsNothingDue : ℕ → ℕ → Times → Live → OpenCalls → KeptReplies → Type 0
IsNothingDue now next times live calls kept =
    (item : DueItem) → IsDue now next times live calls kept item → ⊥
