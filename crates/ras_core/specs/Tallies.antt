-- What is known of a zone's pools beside their figures.
use Rattle.std.specs.Prelude.{ℕ, List, map, slice_index_or, slice_set, Option, None, Some}
use Rattle.pools.specs.declared.interface.Figures.{Figures}
use Rattle.pools.specs.declared.interface.Lend.{Lend}
use Rattle.pools.specs.Account.{Account}
use Rattle.pools.specs.Members.{Member, one_more}
use Rattle.pools.specs.Replacing.{member_with_loans}
use Rattle.zone_events.specs.declared.due_item.DueItem.TheVariants.{PoolTurn}
use Rattle.zone_tables.specs.Pools.{RequestedUnits}
use Rattle.ras_machine.specs.Machine.{Course, Doing}
use Rattle.ras_machine.specs.Steps.{ask_in}

-- what a pool was asked for last, with its answer
abbrev pub Last : Type 0
Last = Option (ℕ × Lend)

-- What is known of a pool beside its figures: its last request, how often it was asked for units,
-- and how many turns it made.
pub record Tally : Type 0 where
  pub last : Last
  pub requests : ℕ
  pub turns : ℕ

-- the last request of a pool, with what its set counted of it
abbrev pub tally_of : Member → Tally
tally_of m = record { last = m.account.last; requests = m.requests; turns = m.turns }

abbrev pub tallies_of : List Member → List Tally
tallies_of members = map tally_of members

-- the last request of each account
abbrev pub lasts_of : List Account → List Last
lasts_of accounts = map (λ a. a.last) accounts

-- the tally at a place; past the end, that of a pool that was asked and told nothing
abbrev pub tally_at : List Tally → ℕ → Tally
tally_at tallies pool =
    slice_index_or tallies pool (record { last = None; requests = 0; turns = 0 })

-- a pool was asked once for these units, and gave this answer
abbrev pub tally_after_answer : Tally → ℕ → Lend → Tally
tally_after_answer t units answer = record t {
  last = Some (units, answer);
  requests = one_more t.requests;
}

-- a pool made one turn
abbrev pub tally_after_turn : Tally → Tally
tally_after_turn t = record t { turns = one_more t.turns }

-- The pool that was asked has that request, with the answer, as its last one, and was asked once
-- more; the tallies of all others stay.
abbrev pub tallies_after_answer : List Tally → RequestedUnits → Lend → List Tally
tallies_after_answer tallies requested answer =
    slice_set tallies requested.pool
    (tally_after_answer (tally_at tallies requested.pool) requested.units answer)

-- each pool made one turn
abbrev pub tallies_after_turn : List Tally → List Tally
tallies_after_turn tallies = map tally_after_turn tallies

-- a pool was asked, if one is
abbrev pub tallies_after_ask : List Tally → Option RequestedUnits → Option Lend → List Tally
tallies_after_ask tallies (Some ask) (Some answer) = tallies_after_answer tallies ask answer
tallies_after_ask tallies (Some ask) None = tallies
tallies_after_ask tallies None answer = tallies

-- The tallies of the pools after what an event calls for. At the turn of the pools each of them
-- makes one turn. Else the pool that is asked is asked once, with this answer; the tallies of all
-- others stay, and all stay if none is asked.
abbrev pub tallies_after : List Tally → Course → Option Lend → List Tally
tallies_after tallies (Doing PoolTurn) answer = tallies_after_turn tallies
tallies_after tallies other answer = tallies_after_ask tallies (ask_in other) answer

-- A fresh pool, seen as this account, took the place of a pool that had lent these units. It was
-- asked for them and told of no time; the tallies of all others stay.
abbrev pub tallies_after_replacing : List Tally → ℕ → Account → ℕ → List Tally
tallies_after_replacing tallies pool fresh units =
    slice_set tallies pool (tally_of (member_with_loans fresh units))

-- all that was lent came back
abbrev pub without_loans : Figures → Figures
without_loans f = record f { lent = 0 }

abbrev pub figures_without_loans : List Figures → List Figures
figures_without_loans pools = map without_loans pools
