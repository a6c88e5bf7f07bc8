-- Rings of datagrams: what their ends have put and taken, and which ends belong together.
use Rattle.std.specs.Prelude.{◌≡◌, ◌≢◌, ℕ, List, [], Some, slice_get}
use Rattle.rtrb.specs.Ring as ring
use Rattle.zone_events.specs.declared.outcome.Datagram.{Datagram}
use Rattle.reply_queues.specs.declared.outlet.Outlet.{Outlet}
use Rattle.reply_queues.specs.declared.outlet.Ended.{Ended}
use Rattle.reply_queues.specs.declared.inlet.Inlet.{Inlet}
use Rattle.reply_queues.specs.declared.inlet.Settled.{Settled}
use Rattle.reply_queues.specs.declared.inlet.Settled.TheVariants.{Whole, Unknown}
use Rattle.reply_queues.specs.Counts.{saturating_count}

-- the datagrams that the outlet has put into its ring, oldest first
abbrev pub datagrams_put : Outlet → List Datagram
datagrams_put outlet = ring.sent outlet.producer

-- how many places of its ring the outlet knows to be free
abbrev pub free_places : Outlet → ℕ
free_places outlet = ring.known_free outlet.producer

-- the datagrams that the inlet has taken out of its ring, oldest first
abbrev pub datagrams_taken : Inlet → List Datagram
datagrams_taken inlet = ring.received inlet.consumer

-- the datagrams that the inlet has seen in its ring and has not taken yet: they come next
abbrev pub datagrams_seen : Inlet → List Datagram
datagrams_seen inlet = ring.known_items inlet.consumer

-- all datagrams that were ever put into the ring of the mark, oldest first
abbrev pub all_datagrams : Ended → List Datagram
all_datagrams mark = ring.all_sent mark.finished

-- the two ends of one ring
abbrev pub IsRing : Outlet → Inlet → Type 0
IsRing outlet inlet = ring.IsPair outlet.producer inlet.consumer

-- the outlet of one ring, earlier and later
abbrev pub SameOutlet : Outlet → Outlet → Type 0
SameOutlet earlier later = ring.SameProducer earlier.producer later.producer

-- the inlet of one ring, earlier and later
abbrev pub SameInlet : Inlet → Inlet → Type 0
SameInlet earlier later = ring.SameConsumer earlier.consumer later.consumer

-- the mark of the inlet's ring
abbrev pub IsMarkOf : Ended → Inlet → Type 0
IsMarkOf mark inlet = ring.IsFinishedOf mark.finished inlet.consumer

-- the mark of the outlet's ring, which knows what the outlet has put
abbrev pub Ends : Outlet → Ended → Type 0
Ends outlet mark = ring.Finishes outlet.producer mark.finished

-- the mark of the inlet that belongs to the outlet, whichever that is: what a thread that has the
-- outlet can promise to the one that has the inlet
abbrev pub MarksRing : Outlet → Ended → Type 0
MarksRing outlet mark = (inlet : Inlet) → IsRing outlet inlet → IsMarkOf mark inlet

-- what is told of a ring with a mark: it is whole if all that was ever put was taken, and the
-- number of datagrams is told; it is unknown if something is left
abbrev pub Settles : Ended → Inlet → Settled → Type 0
Settles mark inlet (Whole taken) =
    (datagrams_taken inlet ≡ all_datagrams mark)
    × (taken ≡ saturating_count (datagrams_taken inlet))
Settles mark inlet Unknown = datagrams_taken inlet ≢ all_datagrams mark

-- a ring that was just made: nothing was put, seen or taken, and every place is free
pub record IsNewRing (capacity : ℕ) (outlet : Outlet) (inlet : Inlet) : Type 0 where
  pub ring : IsRing outlet inlet
  pub nothing_put : datagrams_put outlet ≡ []
  pub nothing_seen : datagrams_seen inlet ≡ []
  pub nothing_taken : datagrams_taken inlet ≡ []
  pub all_free : free_places outlet ≡ capacity

-- the outlet and the inlet at the same place of the two lists are the ends of one new ring
abbrev pub EachIsNewRing : ℕ → List Outlet → List Inlet → Type 0
EachIsNewRing capacity outlets inlets =
    (k : ℕ) (outlet : Outlet) (inlet : Inlet) → slice_get outlets k ≡ Some outlet
    → slice_get inlets k ≡ Some inlet → IsNewRing capacity outlet inlet
