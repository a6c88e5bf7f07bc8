-- What a worker has, and what it did.
use Rattle.std.specs.Prelude.{◌≡◌, ℕ, nat_lt, Bool, true, false, List, [], ◌∷◌, ◌++◌, length}
use Rattle.std.specs.Prelude.{Option, None}
use Rattle.std.specs.Prelude.{Some, slice_get, if◌then◌else◌}
use Rattle.zone_events.specs.declared.event.Event.{Event}
use Rattle.zone_events.specs.declared.outcome.Datagram.{Datagram}
use Rattle.books.specs.declared.book.Entry.{Entry}
use Rattle.books.specs.Books.{entries_of_seat}
use Rattle.history.specs.declared.worker.Hand.{Hand}
use Rattle.history.specs.declared.worker.Hand.TheVariants.{Idle, Holding, Done}
use Rattle.history.specs.declared.worker.Mark.{Mark}
use Rattle.history.specs.declared.worker.Mark.TheVariants.{Posted, Dropped, Silent}
use Rattle.history.specs.declared.world.Acted.{Acted}
use Rattle.history.specs.declared.world.Acted.TheVariants as acted

-- What it holds, what waits in its ring, what became of each outcome that left its hand, and how
-- many outputs were taken from its ring.
pub record WorkerState : Type 0 where
  pub hand : Hand
  pub ring : List Datagram
  pub settled : List Mark
  pub taken : ℕ

abbrev pub is_idle : Hand → Bool
is_idle Idle = true
is_idle (Holding event) = false
is_idle (Done place) = false

abbrev pub event_of : Hand → Option Event
event_of Idle = None
event_of (Holding event) = Some event
event_of (Done place) = None

abbrev pub place_of : Hand → Option ℕ
place_of Idle = None
place_of (Holding event) = None
place_of (Done place) = Some place

abbrev pub is_empty : List Datagram → Bool
is_empty [] = true
is_empty (output ∷ outputs) = false

-- What becomes of an output if `waiting` outputs wait in the ring: it is dropped if and only if
-- these are as many as the ring has places.
abbrev pub mark_of : ℕ → ℕ → Option Datagram → Mark
mark_of capacity waiting None = Silent
mark_of capacity waiting (Some output) = if nat_lt waiting capacity then Posted else Dropped

-- what is told of it
abbrev pub acted_by : Mark → Acted
acted_by Posted = acted.Posted
acted_by Dropped = acted.Dropped
acted_by Silent = acted.Nothing

-- a list of none or one
abbrev pub listed : Option Datagram → List Datagram
listed None = []
listed (Some output) = output ∷ []

-- an output that is posted goes to the end of the ring
abbrev pub ring_after : List Datagram → Mark → Option Datagram → List Datagram
ring_after ring Posted output = ring ++ listed output
ring_after ring Dropped output = ring
ring_after ring Silent output = ring

-- the worker is idle again, and so its outcome is settled
abbrev pub posted : WorkerState → Mark → Option Datagram → WorkerState
posted k mark output = record {
  hand = Idle;
  ring = ring_after k.ring mark output;
  settled = k.settled ++ mark ∷ [];
  taken = k.taken;
}

abbrev pub unless_dropped : Mark → List Datagram → List Datagram
unless_dropped Posted outputs = outputs
unless_dropped Dropped outputs = []
unless_dropped Silent outputs = outputs

-- the outputs of the entries that were settled so, in order, but for those that were dropped
abbrev pub kept_outputs : List Entry → List Mark → List Datagram
kept_outputs [] marks = []
kept_outputs (e ∷ entries) [] = []
kept_outputs (e ∷ entries) (m ∷ marks) =
    unless_dropped m (listed e.outcome.output) ++ kept_outputs entries marks

-- the entry whose outcome is in the hand, if there is one
abbrev pub IsInHand : Hand → List Entry → List Entry → Type 0
IsInHand Idle entries waiting = waiting ≡ []
IsInHand (Holding event) entries waiting = waiting ≡ []
IsInHand (Done place) entries waiting =
    (e : Entry) × (waiting ≡ e ∷ []) × (slice_get entries place ≡ Some e)

-- Of the worker's entries all were settled but the one in its hand. Of their outputs, but for those
-- that were dropped, the first were taken, and the others wait in the ring: in order, each once.
pub record IsServed (entries : List Entry) (w : ℕ) (k : WorkerState) : Type 0 where
  pub past : List Entry
  pub waiting : List Entry
  pub took : List Datagram
  pub split : entries_of_seat w entries ≡ past ++ waiting
  pub hand : IsInHand k.hand entries waiting
  pub marked : length past ≡ length k.settled
  pub count : length took ≡ k.taken
  pub order : took ++ k.ring ≡ kept_outputs past k.settled
