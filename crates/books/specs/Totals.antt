-- What entries add up to.
use Rattle.std.specs.Prelude.{◌+◌, ◌-◌, ℕ, List, Option, None, Some, sum_by}
use Rattle.admission.specs.Calls.{in_use}
use Rattle.pools.specs.declared.interface.Lend.{Lend}
use Rattle.pools.specs.declared.interface.Lend.TheVariants.{Lent, Refused, Wait}
use Rattle.zone_events.specs.declared.change.Change.{Change}
use Rattle.zone_events.specs.declared.change.Change.TheVariants.{Event, PoolChange}
use Rattle.zone_events.specs.declared.event.Event.TheVariants.{Datagram, Turn}
use Rattle.ras_machine.specs.State.{State}
use Rattle.books.specs.declared.book.Entry.{Entry}
use Rattle.books.specs.declared.kind.StepKind.{StepKind}
use Rattle.books.specs.declared.kind.StepKind.TheVariants as kind
use Rattle.books.specs.declared.totals.Totals.{Totals}

-- of what a step was made
abbrev pub kind_of : Change → StepKind
kind_of (Event (Datagram source bytes moment)) = kind.Datagram
kind_of (Event (Turn moment)) = kind.Turn
kind_of (PoolChange replacement) = kind.PoolChange

-- 1 for a datagram, and 0 for all else
abbrev pub datagrams_of_kind : StepKind → ℕ
datagrams_of_kind kind.Datagram = 1
datagrams_of_kind kind.Turn = 0
datagrams_of_kind kind.PoolChange = 0

abbrev pub datagrams_in : Change → ℕ
datagrams_in event = datagrams_of_kind (kind_of event)

-- 1 for a turn, and 0 for all else
abbrev pub turns_of_kind : StepKind → ℕ
turns_of_kind kind.Datagram = 0
turns_of_kind kind.Turn = 1
turns_of_kind kind.PoolChange = 0

abbrev pub turns_in : Change → ℕ
turns_in event = turns_of_kind (kind_of event)

-- 1 for a pool that took the place of another one, and 0 for all else
abbrev pub changes_of_kind : StepKind → ℕ
changes_of_kind kind.Datagram = 0
changes_of_kind kind.Turn = 0
changes_of_kind kind.PoolChange = 1

abbrev pub changes_in : Change → ℕ
changes_in event = changes_of_kind (kind_of event)

-- the units that a pool lent by its answer
abbrev pub units_lent : Option Lend → ℕ
units_lent (Some (Lent units)) = units
units_lent (Some Refused) = 0
units_lent (Some Wait) = 0
units_lent None = 0

-- how many of the entries are of a datagram, how many of a turn, how many of a pool that took the
-- place of another one, and the units that their pools lent
abbrev pub datagrams_of : List Entry → ℕ
datagrams_of entries = sum_by (λ e. datagrams_in e.event) entries

abbrev pub turns_of : List Entry → ℕ
turns_of entries = sum_by (λ e. turns_in e.event) entries

abbrev pub changes_of : List Entry → ℕ
changes_of entries = sum_by (λ e. changes_in e.event) entries

abbrev pub lent_of : List Entry → ℕ
lent_of entries = sum_by (λ e. units_lent e.outcome.answer) entries

-- the totals of no entries
abbrev pub no_totals : Totals
no_totals = record { datagrams = 0; turns = 0; lent = 0; returned = 0; changes = 0 }

-- what these entries, by which `back` units came back, add to totals
abbrev pub totals_with : Totals → List Entry → ℕ → Totals
totals_with before entries back = record {
  datagrams = before.datagrams + datagrams_of entries;
  turns = before.turns + turns_of entries;
  lent = before.lent + lent_of entries;
  returned = before.returned + back;
  changes = before.changes + changes_of entries;
}

-- the units that came back in these steps: what was in use, plus what was lent, less what is in use
abbrev pub returned_by : State → List Entry → State → ℕ
returned_by base entries now =
    in_use base.tables.calls + lent_of entries - in_use now.tables.calls
