-- Seats, and what a step does to its seat.
use Rattle.std.specs.Prelude.{◌≡◌, ◌≤◌, ◌+◌, ℕ, Option}
use Rattle.pools.specs.declared.interface.Lend.{Lend}
use Rattle.zone_events.specs.declared.change.Change.{Change}
use Rattle.zone_events.specs.declared.outcome.Outcome.{Outcome}
use Rattle.books.specs.declared.kind.StepKind.{StepKind}
use Rattle.books.specs.Totals.{changes_of_kind, datagrams_of_kind, kind_of, turns_of_kind}
use Rattle.books.specs.Totals.{units_lent}

-- Its number, how many steps it made, and its shares: how many of these were of a datagram, how
-- many of a turn, how many units were lent in them, and how many were of a pool that took the place
-- of another one.
pub record Seated : Type 0 where
  pub number : ℕ
  pub calls : ℕ
  pub datagrams : ℕ
  pub turns : ℕ
  pub lent : ℕ
  pub changes : ℕ

abbrev pub seated : ℕ → ℕ → ℕ → ℕ → ℕ → ℕ → Seated
seated number calls datagrams turns lent changes = record {
  number = number;
  calls = calls;
  datagrams = datagrams;
  turns = turns;
  lent = lent;
  changes = changes;
}

-- the seat made one step more, of this kind and with this answer of a pool
abbrev pub seated_by : Seated → StepKind → Option Lend → Seated
seated_by seat kind answer = record {
  number = seat.number;
  calls = seat.calls + 1;
  datagrams = seat.datagrams + datagrams_of_kind kind;
  turns = seat.turns + turns_of_kind kind;
  lent = seat.lent + units_lent answer;
  changes = seat.changes + changes_of_kind kind;
}

-- the seat made one step more, of this event and with this outcome
abbrev pub seated_after : Seated → Change → Outcome → Seated
seated_after seat event outcome = seated_by seat (kind_of event) outcome.answer

-- a lock has this many seats
pub record IsSeatCount (seats : ℕ) : Type 0 where
  pub some : 1 ≤ seats
  pub most : seats ≤ 16

-- each ledger has a part for each seat
pub record HavePartForEach (seats of_datagrams of_turns of_lent of_changes : ℕ) : Type 0 where
  pub datagrams : of_datagrams ≡ seats
  pub turns : of_turns ≡ seats
  pub lent : of_lent ≡ seats
  pub changes : of_changes ≡ seats
