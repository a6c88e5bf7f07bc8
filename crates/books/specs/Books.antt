-- What the entries of a book are.
use Rattle.std.specs.Prelude.{ℕ, ◌≡◌, ◌==◌, List, map, filter, slice_get, Some}
use Rattle.zone_events.specs.declared.change.Change.{Change}
use Rattle.zone_events.specs.declared.outcome.Outcome.{Outcome}
use Rattle.ras_machine.specs.State.{State}
use Rattle.ras_core.specs.Runs.{Run}
use Rattle.books.specs.declared.book.Entry.{Entry}

-- what a step was made of, with its outcome
abbrev pub step_in : Entry → Change × Outcome
step_in entry = (entry.event, entry.outcome)

-- The steps of the entries, one after the other, lead the machine from one state to the other.
abbrev pub BookRun : State → List Entry → State → Type 0
BookRun base entries now = Run base (map step_in entries) now

-- the entries that a seat made, in their order
abbrev pub entries_of_seat : ℕ → List Entry → List Entry
entries_of_seat seat entries = filter (λ e. e.seat == seat) entries

-- the entries of each seat have the calls 0, 1, 2 and so on
abbrev pub AreCounted : List Entry → Type 0
AreCounted entries = (seat n : ℕ) (entry : Entry)
    → slice_get (entries_of_seat seat entries) n ≡ Some entry → entry.call ≡ n
