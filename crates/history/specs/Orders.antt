-- What any order of steps of a world comes to.
use Rattle.std.specs.Prelude.{◌≡◌, ℕ, List, [], ◌∷◌, ◌++◌, length, Option, None, Some, slice_get}
use Rattle.zone_events.specs.declared.change.PoolChange.{PoolChange}
use Rattle.zone_events.specs.declared.outcome.Datagram.{Datagram}
use Rattle.zone_events.specs.declared.outcome.Outcome.{Outcome}
use Rattle.books.specs.declared.book.Entry.{Entry}
use Rattle.books.specs.Books.{entries_of_seat}
use Rattle.history.specs.declared.worker.Hand.{Hand}
use Rattle.history.specs.declared.worker.Hand.TheVariants.{Idle, Holding, Done}
use Rattle.history.specs.declared.worker.Mark.{Mark}
use Rattle.history.specs.declared.world.Acted.{Acted}
use Rattle.history.specs.declared.world.WorldStep.{WorldStep}
use Rattle.history.specs.Workers.{WorkerState, listed, unless_dropped}
use Rattle.history.specs.Worlds.{Scene, Happens, ReplacesPool}

-- What is done with a world: a step of a worker, with what is told of it; or a pool of the zone is
-- replaced, with the outcome of that.
pub data Deed : Type 0 where
  Acting : WorldStep → Acted → Deed
  Replacing : PoolChange → Outcome → Deed

abbrev pub IsDone : Scene → Deed → Scene → Type 0
IsDone x (Acting step told) y = Happens x step told y
IsDone x (Replacing replacement outcome) y = ReplacesPool x replacement outcome y

-- Any steps, of any workers, and any replacements between them, one after the other. (What is
-- refused changes nothing, and so it has no place here.)
abbrev pub Interleaving : Scene → List Deed → Scene → Type 0
Interleaving x [] y = y ≡ x
Interleaving x (deed ∷ deeds) y =
    (mid : Scene) × IsDone x deed mid × Interleaving mid deeds y

-- The outputs of a worker's entries that were not dropped, in order. An outcome that is not settled
-- was not dropped.
abbrev pub outputs_so_far : List Entry → List Mark → List Datagram
outputs_so_far [] marks = []
outputs_so_far (e ∷ entries) [] = listed e.outcome.output ++ outputs_so_far entries []
outputs_so_far (e ∷ entries) (m ∷ marks) =
    unless_dropped m (listed e.outcome.output) ++ outputs_so_far entries marks

abbrev pub outputs_of_worker : Scene → ℕ → WorkerState → List Datagram
outputs_of_worker x w k = outputs_so_far (entries_of_seat w x.entries) k.settled

-- the output that the worker holds, if it holds one
abbrev pub output_in : Option Entry → List Datagram
output_in None = []
output_in (Some e) = listed e.outcome.output

abbrev pub output_held : Hand → List Entry → List Datagram
output_held Idle entries = []
output_held (Holding event) entries = []
output_held (Done place) entries = output_in (slice_get entries place)

-- Of the worker's outputs that were not dropped, the first were taken, the next wait in its ring,
-- and the last one is in its hand: in order, each once.
pub record AreServedInOrder (x : Scene) (w : ℕ) (k : WorkerState) : Type 0 where
  pub took : List Datagram
  pub count : length took ≡ k.taken
  pub order : took ++ (k.ring ++ output_held k.hand x.entries) ≡ outputs_of_worker x w k
