-- What a worker does with an event: one step under the lock, and its reply to the sender.
use Rattle.std.specs.Prelude.{◌≡◌, ◌≤◌, ◌<◌, ◌++◌, ◌∷◌, ◌⊎◌, ◌↔◌, ℕ, List, [], Option, None}
use Rattle.std.specs.Prelude.{Bool, Err, IsFalse, IsTrue, Ok, Some, false, is_some, slice_get}
use Rattle.std.specs.Prelude.{take, true}
use Rattle.ras_module.specs.declared.address.Address.{Address}
use Rattle.zone_events.specs.declared.change.Change.TheVariants as change
use Rattle.zone_events.specs.declared.event.Event.{Event}
use Rattle.zone_events.specs.declared.event.Event.TheVariants as event
use Rattle.zone_events.specs.declared.outcome.Datagram.{Datagram}
use Rattle.zone_events.specs.declared.outcome.Note.TheVariants as note
use Rattle.zone_events.specs.declared.outcome.Outcome.{Outcome}
use Rattle.ras_machine.specs.State.{State}
use Rattle.ras_core.specs.declared.fault.StepFault.TheVariants as step_fault
use Rattle.books.specs.declared.book.Entry.{Entry}
use Rattle.zone_lock.specs.Held.{IsClosed, IsMadeUnderLock, IsStepUnderLock, entry_by}
use Rattle.zone_lock.specs.Seats.{Seated, seated_after}
use Rattle.zone_lock.specs.Turns.{AreTurnsUnderLock}
use Rattle.zone_lock.specs.declared.turns.TurnsEnd.{TurnsEnd}
use Rattle.zone_lock.specs.declared.turns.TurnsEnd.TheVariants as turns_end
use Rattle.zone_view.specs.Counts.{no_counts}
use Rattle.reply_queues.specs.Rings.{datagrams_put, free_places}
use Rattle.reply_queues.specs.declared.outlet.Outlet.{Outlet}
use Rattle.udp_server.specs.declared.datagrams.DeviceFault.{DeviceFault}
use Rattle.udp_server.specs.declared.datagrams.Received.TheVariants as received
use Rattle.udp_server.specs.declared.receiver.Next.{Next}
use Rattle.udp_server.specs.declared.receiver.Next.TheVariants as next
use Rattle.udp_server.specs.declared.worker.Counts.{Counts}
use Rattle.udp_server.specs.declared.worker.StepResult.{StepResult}
use Rattle.udp_server.specs.declared.worker.StepResult.TheVariants as result
use Rattle.udp_server.specs.Ends.{ReceiveResult, fault_count}

-- What its steps change of a worker: its seat; what it put into its ring, oldest first, and how
-- many places it knows to be free there; and what it counts: replies that found no place there,
-- steps that were refused, and receives that failed.
pub record Standing : Type 0 where
  pub seat : Seated
  pub put : List Datagram
  pub free : ℕ
  pub dropped : ℕ
  pub refused : ℕ
  pub faults : ℕ

abbrev pub standing : Seated → Outlet → Counts → Standing
standing seat outlet counts = record {
  seat = seat;
  put = datagrams_put outlet;
  free = free_places outlet;
  dropped = counts.dropped;
  refused = counts.refused;
  faults = counts.faults;
}

-- a reply stands in the ring, behind what was put there before
abbrev pub IsPosted : Datagram → Standing → Standing → Type 0
IsPosted reply old new = new ≡ record old { put = old.put ++ reply ∷ []; free = new.free }

-- a reply finds no place, as the ring is full, and is counted as dropped
abbrev pub IsDropped : Standing → Standing → Type 0
IsDropped old new = new ≡ record old { dropped = fault_count old.dropped; free = 0 }

-- What is sent is posted, or dropped if the ring is full. If nothing is sent, nothing changes.
abbrev pub IsHandedOn : Option Datagram → Standing → Standing → Type 0
IsHandedOn None old new = new ≡ old
IsHandedOn (Some reply) old new = IsPosted reply old new ⊎ IsDropped old new

-- each of these replies is handed on, in order
abbrev pub AreHandedOn : List Datagram → Standing → Standing → Type 0
AreHandedOn [] old new = new ≡ old
AreHandedOn (reply ∷ replies) old new =
    (mid : Standing) × IsHandedOn (Some reply) old mid × AreHandedOn replies mid new

-- One step was made under the lock, of which this is the entry. It stands at this place of the
-- history that is kept, or nothing of it is kept.
abbrev pub IsStepOf : State → Option ℕ → Entry → Type 0
IsStepOf opened None entry = IsMadeUnderLock opened entry
IsStepOf opened (Some place) entry = IsStepUnderLock opened place entry

-- A worker served an event: it made one step of just that event, and handed on what is sent in it.
-- It tells the place of its entry, if that is kept, and whether nothing was due in the step.
pub record IsServedEvent (opened : State) (event : Event) (place : Option ℕ) (is_idle : Bool)
    (old new : Standing) : Type 0 where
  pub outcome : Outcome
  pub step : IsStepOf opened place
      (entry_by old.seat.number old.seat.calls (change.Event event) outcome)
  pub idle : IsTrue is_idle ↔ (outcome.note ≡ note.Idle)
  pub handed_on : IsHandedOn outcome.output
      (record old { seat = seated_after old.seat (change.Event event) outcome }) new

-- a step was refused, and nothing but the count of that changes
abbrev pub IsRefusalCounted : Standing → Standing → Type 0
IsRefusalCounted old new = new ≡ record old { refused = fault_count old.refused }

-- What came of an event: it was served; or memory was wanting, and that is counted; or no step is
-- made any more.
abbrev pub CameOf : State → Event → StepResult → Standing → Standing → Type 0
CameOf opened event (result.Made place is_idle) old new =
    IsServedEvent opened event place is_idle old new
CameOf opened event result.Refused old new = IsRefusalCounted old new
CameOf opened event result.Closed old new = (new ≡ old) × IsClosed opened

-- a step that was made is an entry of the history, or isn't
abbrev pub IsRecordedAs : Bool → StepResult → Type 0
IsRecordedAs is_recorded (result.Made place is_idle) = is_some place ≡ is_recorded
IsRecordedAs is_recorded result.Refused = Unit {0}
IsRecordedAs is_recorded result.Closed = Unit {0}

-- whether a worker goes on after what came of an event: it ends only if no step is made any more
abbrev pub goes_on_after : StepResult → Bool
goes_on_after (result.Made place is_idle) = true
goes_on_after result.Refused = true
goes_on_after result.Closed = false

-- the count of refused steps after turns that ended so: a want of memory is counted
abbrev pub refused_after : TurnsEnd → ℕ → ℕ
refused_after (turns_end.Refused step_fault.Memory) before = fault_count before
refused_after why before = before

-- A worker made turns under the lock, at most `most`, at one moment that its clock told, and
-- handed on what they send, in order. A turn that was refused for want of memory is counted.
pub record AreTurnsServed (opened : State) (tells : ℕ → Type 0) (most : ℕ) (why : TurnsEnd)
    (old new : Standing) : Type 0 where
  pub moment : ℕ
  pub sent : List Datagram
  pub seat_then : Seated
  pub told : tells moment
  pub counts : List ℕ
  pub turns : AreTurnsUnderLock opened old.seat moment most sent why seat_then no_counts counts
  pub handed_on : AreHandedOn sent
      (record old { seat = seat_then; refused = refused_after why old.refused }) new

-- What came of turns: they were made, and what they send was handed on; or there was no memory for
-- what they would send, so that none was made, and that is counted.
abbrev pub CameOfTurns : State → (ℕ → Type 0) → ℕ → TurnsEnd → Standing → Standing → Type 0
CameOfTurns opened tells most why old new =
    AreTurnsServed opened tells most why old new
    ⊎ ((why ≡ turns_end.Refused step_fault.Memory) × IsRefusalCounted old new)

-- a clock told this moment when it was asked
abbrev pub IsTold : {C : Type 0} → (C → ℕ → C → Type 0) → C → ℕ → Type 0
IsTold {C} tells clock moment = (clock_then : C) × tells clock moment clock_then

-- what a receive gave, with the octets of its datagram, if it gave one
abbrev pub Gives : Type 1
Gives = ReceiveResult → List ℕ → Type 0

-- the event of a datagram from this source, with these octets, at a moment that was told
abbrev pub IsEventNow : (ℕ → Type 0) → Address → List ℕ → Event → Type 0
IsEventNow tells source octets what =
    (moment : ℕ) × tells moment × (what ≡ event.Datagram source octets moment)

-- The event of the datagram that the end gave: from its source, with as many octets as it told,
-- which stand at the front of the buffer, at the moment that the worker's clock told.
pub record IsReceivedIn (gives : Gives) (tells : ℕ → Type 0) (buffer : List ℕ) (what : Event)
    : Type 0 where
  pub source : Address
  pub length : ℕ
  pub moment : ℕ
  pub given : gives (Ok (received.Datagram source length)) (take length buffer)
  pub told : tells moment
  pub is : what ≡ event.Datagram source (take length buffer) moment

-- The end gave a datagram, for which there was no memory; and that is counted.
pub record IsDatagramRefused (gives : Gives) (old new : Standing) : Type 0 where
  pub source : Address
  pub length : ℕ
  pub octets : List ℕ
  pub given : gives (Ok (received.Datagram source length)) octets
  pub counted : IsRefusalCounted old new

-- How many receives have failed, as the end of a worker counts them, and how many in a row by now.
pub record Failures : Type 0 where
  pub all : ℕ
  pub in_a_row : ℕ

abbrev pub failures : ℕ → ℕ → Failures
failures all in_a_row = record { all = all; in_a_row = in_a_row }

-- the same after a receive that didn't fail: the row has ended
abbrev pub without_row : Failures → Failures
without_row before = record before { in_a_row = 0 }

-- the same after a receive that failed
abbrev pub with_failure : Failures → Failures
with_failure before = record {
  all = fault_count before.all;
  in_a_row = fault_count before.in_a_row;
}

-- A receive failed. The worker counts that as its end does, and nothing else changes.
pub record IsFaultCounted (gives : Gives) (before after : Failures) (old new : Standing)
    : Type 0 where
  pub fault : DeviceFault
  pub given : gives (Err fault) []
  pub failed : after ≡ with_failure before
  pub counted : new ≡ record old { faults = fault_count old.faults }

-- No step is to be made: nothing came for some time, and all is as it was; or there was no memory
-- for the datagram that came, and that is counted; or the receive failed, and that is counted, but
-- not as many have failed in a row as are allowed to.
abbrev pub IsNothing : Gives → ℕ → Failures → Failures → Standing → Standing → Type 0
IsNothing gives most before after old new =
    ((after ≡ without_row before) × (new ≡ old) × gives (Ok received.Quiet) [])
    ⊎ ((after ≡ without_row before) × IsDatagramRefused gives old new)
    ⊎ ((after.in_a_row < most) × IsFaultCounted gives before after old new)

-- Nothing more is received: the end has stopped, and all is as it was; or the receive failed, and
-- that is counted, and as many have failed in a row as are allowed to.
abbrev pub IsEnd : Gives → ℕ → Failures → Failures → Standing → Standing → Type 0
IsEnd gives most before after old new =
    ((after ≡ before) × (new ≡ old) × gives (Ok received.Stopped) [])
    ⊎ ((most ≤ after.in_a_row) × IsFaultCounted gives before after old new)

-- What a receive came to, if fewer than `most` may fail in a row: a datagram, of which a step is to
-- be made; or nothing; or that nothing more comes.
abbrev pub IsReceived : Gives → (ℕ → Type 0) → List ℕ → ℕ → Failures → Failures → Next → Standing
    → Standing → Type 0
IsReceived gives tells buffer most before after (next.Event what) old new =
    (after ≡ without_row before) × (new ≡ old) × IsReceivedIn gives tells buffer what
IsReceived gives tells buffer most before after next.Nothing old new =
    IsNothing gives most before after old new
IsReceived gives tells buffer most before after next.End old new =
    IsEnd gives most before after old new

-- A datagram was received, and something came of its event. Its step is recorded, or isn't.
pub record IsDatagramServed (opened : State) (is_recorded : Bool) (gives : Gives)
    (tells : ℕ → Type 0) (buffer : List ℕ) (before after : Failures) (goes_on : Bool)
    (old new : Standing) : Type 0 where
  pub what : Event
  pub came : StepResult
  pub no_failure : after ≡ without_row before
  pub datagram : IsReceivedIn gives tells buffer what
  pub served : CameOf opened what came old new
  pub recorded : IsRecordedAs is_recorded came
  pub end : goes_on ≡ goes_on_after came

-- What a worker does in one turn of its loop: one receive, and what comes of that. No step was to
-- be made, and it goes on; or nothing more is received, and it doesn't; or a datagram came, and
-- something came of its event.
abbrev pub IsTurnOfLoop : State → Bool → Gives → (ℕ → Type 0) → List ℕ → ℕ → Failures → Failures
    → Bool → Standing → Standing → Type 0
IsTurnOfLoop opened is_recorded gives tells buffer most before after goes_on old new =
    (IsTrue goes_on × IsNothing gives most before after old new)
    ⊎ (IsFalse goes_on × IsEnd gives most before after old new)
    ⊎ IsDatagramServed opened is_recorded gives tells buffer before after goes_on old new

-- the first octet of the datagram of an event, if it has one: by it the step is counted
abbrev pub first_octet : Event → Option ℕ
first_octet (event.Datagram source octets moment) = slice_get octets 0
first_octet (event.Turn moment) = None
