-- A zone with its book and its workers.
use Rattle.std.specs.Prelude.{◌≡◌, ◌≤◌, ◌+◌, ◌==◌, ℕ, List, [], ◌∷◌, ◌++◌, length, Option, None}
use Rattle.std.specs.Prelude.{Some, Bool, true, false}
use Rattle.std.specs.Prelude.{slice_get, slice_set, if◌then◌else◌}
use Rattle.zone_events.specs.declared.change.Change.{Change}
use Rattle.zone_events.specs.declared.change.Change.TheVariants as change
use Rattle.zone_events.specs.declared.change.PoolChange.{PoolChange}
use Rattle.zone_events.specs.declared.event.Event.{Event}
use Rattle.zone_events.specs.declared.outcome.Datagram.{Datagram}
use Rattle.zone_events.specs.declared.outcome.Outcome.{Outcome}
use Rattle.ras_machine.specs.State.{State}
use Rattle.ras_machine.specs.Machine.{most_steps}
use Rattle.ras_machine.specs.Soundness.{Sound}
use Rattle.ras_core.specs.Running.{Running}
use Rattle.ras_core.specs.Runs.{RunningReplacement, RunningStep}
use Rattle.books.specs.declared.book.Entry.{Entry}
use Rattle.books.specs.Books.{AreCounted, BookRun, entries_of_seat}
use Rattle.history.specs.declared.fault.WorldFault.{WorldFault}
use Rattle.history.specs.declared.fault.WorldFault.TheVariants.{Closed, NoWorker, NotIdle, NoEvent}
use Rattle.history.specs.declared.fault.WorldFault.TheVariants.{NoOutcome, RingEmpty}
use Rattle.history.specs.declared.worker.Hand.TheVariants.{Idle, Holding, Done}
use Rattle.history.specs.declared.worker.Mark.{Mark}
use Rattle.history.specs.declared.worker.Mark.TheVariants as mark
use Rattle.history.specs.declared.world.WorldStep.{WorldStep}
use Rattle.history.specs.declared.world.WorldStep.TheVariants.{Receive, Apply, Post, Take}
use Rattle.history.specs.declared.world.Acted.{Acted}
use Rattle.history.specs.declared.world.Acted.TheVariants as acted
use Rattle.history.specs.Workers.{WorkerState, IsServed, is_idle, event_of, place_of, is_empty}
use Rattle.history.specs.Workers.{mark_of, posted}

-- The state in which it began, the zone as it runs, the entries of the book, the workers, and how
-- many places each ring has.
pub record Scene : Type 0 where
  pub base : State
  pub zone : Running
  pub entries : List Entry
  pub workers : List WorkerState
  pub capacity : ℕ

pub record IsInRange (workers capacity : ℕ) : Type 0 where
  pub some : 1 ≤ workers
  pub most : workers ≤ 16
  pub room : 1 ≤ capacity
  pub largest : capacity ≤ 4096

-- What holds of every world: its book leads from where it began to the zone's state, with calls
-- that are counted; the zone is sound; and each worker's outputs are served in order.
pub record IsInOrder (x : Scene) : Type 0 where
  pub run : BookRun x.base x.entries x.zone.state
  pub counted : AreCounted x.entries
  pub sound : Sound x.zone.state
  pub served : (w : ℕ) (k : WorkerState) → slice_get x.workers w ≡ Some k → IsServed x.entries w k

-- nothing but one worker changes
abbrev pub with_worker : Scene → ℕ → WorkerState → Scene
with_worker x w k = record {
  base = x.base;
  zone = x.zone;
  entries = x.entries;
  workers = slice_set x.workers w k;
  capacity = x.capacity;
}

-- Why a step is refused, memory aside.
abbrev pub refused_receive : Option WorkerState → Option WorldFault
refused_receive None = Some NoWorker
refused_receive (Some k) = if is_idle k.hand then None else Some NotIdle

abbrev pub refused_event : State → Option Event → Option WorldFault
refused_event s None = Some NoEvent
refused_event s (Some event) = if s.steps == most_steps then Some Closed else None

abbrev pub refused_apply : State → Option WorkerState → Option WorldFault
refused_apply s None = Some NoWorker
refused_apply s (Some k) = refused_event s (event_of k.hand)

abbrev pub refused_place : Option ℕ → Option WorldFault
refused_place None = Some NoOutcome
refused_place (Some place) = None

abbrev pub refused_post : Option WorkerState → Option WorldFault
refused_post None = Some NoWorker
refused_post (Some k) = refused_place (place_of k.hand)

abbrev pub refused_ring : List Datagram → Option WorldFault
refused_ring ring = if is_empty ring then Some RingEmpty else None

abbrev pub refused_take : Option WorkerState → Option WorldFault
refused_take None = Some NoWorker
refused_take (Some k) = refused_ring k.ring

abbrev pub refusal : Scene → WorldStep → Option WorldFault
refusal x (Receive w event) = refused_receive (slice_get x.workers w)
refusal x (Apply w) = refused_apply x.zone.state (slice_get x.workers w)
refusal x (Post w) = refused_post (slice_get x.workers w)
refusal x (Take w) = refused_take (slice_get x.workers w)

-- Whether a step may be refused for want of memory. An event is received and a reply taken without.
abbrev pub needs_memory : WorldStep → Bool
needs_memory (Receive w event) = false
needs_memory (Apply w) = true
needs_memory (Post w) = true
needs_memory (Take w) = false

-- An idle worker holds the event.
pub record Receives (x : Scene) (w : ℕ) (event : Event) (y : Scene) : Type 0 where
  pub worker : WorkerState
  pub there : slice_get x.workers w ≡ Some worker
  pub idle : worker.hand ≡ Idle
  pub after : y ≡ with_worker x w (record worker { hand = Holding event })

-- The entry of a step of the worker with this number, of which `call` outcomes were settled before.
abbrev pub entry_by : ℕ → ℕ → Change → Outcome → Entry
entry_by w call event outcome = record {
  seat = w;
  call = call;
  event = event;
  outcome = outcome;
}

-- The zone makes one step of the event that the worker holds, which then holds the outcome; the
-- step is the last entry of the book.
pub record Applies (x : Scene) (w : ℕ) (outcome : Outcome) (y : Scene) : Type 0 where
  pub worker : WorkerState
  pub event : Event
  pub there : slice_get x.workers w ≡ Some worker
  pub holding : worker.hand ≡ Holding event
  pub step : RunningStep x.zone event outcome y.zone
  pub after : y ≡ record {
    base = x.base;
    zone = y.zone;
    entries = x.entries
        ++ entry_by w (length worker.settled) (change.Event event) outcome ∷ [];
    workers = slice_set x.workers w (record worker { hand = Done (length x.entries) });
    capacity = x.capacity;
  }

-- What is sent by the outcome that the worker holds goes to the end of its ring, or is dropped
-- if the ring is full; the worker is idle again.
pub record Posts (x : Scene) (w : ℕ) (m : Mark) (y : Scene) : Type 0 where
  pub worker : WorkerState
  pub place : ℕ
  pub entry : Entry
  pub there : slice_get x.workers w ≡ Some worker
  pub done : worker.hand ≡ Done place
  pub at : slice_get x.entries place ≡ Some entry
  pub marked : m ≡ mark_of x.capacity (length worker.ring) entry.outcome.output
  pub after : y ≡ with_worker x w (posted worker m entry.outcome.output)

-- The front of the ring is taken.
pub record Takes (x : Scene) (w : ℕ) (output : Datagram) (y : Scene) : Type 0 where
  pub worker : WorkerState
  pub rest : List Datagram
  pub there : slice_get x.workers w ≡ Some worker
  pub ring : worker.ring ≡ output ∷ rest
  pub after : y ≡ with_worker x w (record worker { ring = rest; taken = worker.taken + 1 })

-- a step of a world, with what is told of it
abbrev pub Happens : Scene → WorldStep → Acted → Scene → Type 0
Happens x (Receive w event) acted.Received y = Receives x w event y
Happens x (Apply w) (acted.Applied outcome) y = Applies x w outcome y
Happens x (Post w) acted.Posted y = Posts x w mark.Posted y
Happens x (Post w) acted.Dropped y = Posts x w mark.Dropped y
Happens x (Post w) acted.Nothing y = Posts x w mark.Silent y
Happens x (Take w) (acted.Took output) y = Takes x w output y
Happens x step told y = ⊥

-- A fresh pool takes the place of one of the zone's, by one step, which is the last entry of the
-- book. No worker has made it: its seat is the number of workers, and its call is the number of
-- such steps before it. The workers stay as they are.
pub record ReplacesPool (x : Scene) (replacement : PoolChange) (outcome : Outcome) (y : Scene)
    : Type 0 where
  pub step : RunningReplacement x.zone replacement outcome y.zone
  pub after : y ≡ record {
    base = x.base;
    zone = y.zone;
    entries = x.entries ++ entry_by (length x.workers)
        (length (entries_of_seat (length x.workers) x.entries)) (change.PoolChange replacement)
        outcome ∷ [];
    workers = x.workers;
    capacity = x.capacity;
  }
