-- What is told of a zone to those who look at it.
use Rattle.std.specs.Prelude.{◌≡◌, ◌≤◌, ◌+◌, ℕ, List, [], ◌∷◌, All, Option, None, Some, length}
use Rattle.std.specs.Prelude.{drop, map, min, reverse, take}
use Rattle.std.specs.FinMap as fin
use Rattle.admission.specs.Calls.{AreNumbered, CallTable, in_use, legs_of}
use Rattle.admission.specs.declared.call.Call.{Call}
use Rattle.admission.specs.declared.leg.Leg.{Leg}
use Rattle.pools.specs.declared.interface.Figures.{Figures}
use Rattle.ras_machine.specs.State.{State}
use Rattle.ras_module.specs.declared.call_key.CallKey.{CallKey}
use Rattle.registrations.specs.declared.registration.Registration.{Registration}
use Rattle.registrations.specs.Registry.{IsNumbered, Registry}
use Rattle.zone_tables.specs.Tables.{Tables}
use Rattle.zone_lock.specs.Held.{Held, IsKept}
use Rattle.zone_view.specs.declared.figures.ZoneFigures.{ZoneFigures}
use Rattle.zone_view.specs.declared.rows.CallRow.{CallRow}
use Rattle.zone_view.specs.declared.rows.EndpointRow.{EndpointRow}

-- The figures of a zone in this state, and those of its pools. The bandwidth in use is the sum over
-- the open calls, and within the limit of the zone.
pub record AreFigures (s : State) (f : ZoneFigures) (pools : List Figures) : Type 0 where
  pub clock : f.clock ≡ s.clock
  pub steps : f.steps ≡ s.steps
  pub endpoints : f.endpoints ≡ fin.len s.tables.live
  pub calls : f.calls ≡ fin.len s.tables.calls
  pub kept : f.kept ≡ fin.len s.kept
  pub in_use : f.in_use ≡ in_use s.tables.calls
  pub limit : f.limit ≡ s.tables.config.limit
  pub within : f.in_use ≤ f.limit
  pub pools_are : pools ≡ s.tables.pools

-- the row of an endpoint that takes part in this many calls
abbrev pub endpoint_row : Registration → ℕ → EndpointRow
endpoint_row registration legs = record {
  identifier = registration.identifier;
  call_signal = registration.call_signal;
  ras = registration.ras;
  aliases = take 8 registration.aliases;
  alias_count = length registration.aliases;
  legs = legs;
  deadline = registration.deadline;
  heard = registration.heard;
}

-- the row is that of an endpoint that is registered
pub record IsEndpointRow (tables : Tables) (row : EndpointRow) : Type 0 where
  pub registration : Registration
  pub live : fin.get tables.live row.identifier ≡ Some registration
  pub row_is : row ≡ endpoint_row registration (legs_of tables.calls row.identifier)

-- the row of an endpoint that is registered in these tables
abbrev pub row_in : Tables → Registration → EndpointRow
row_in tables registration =
    endpoint_row registration (legs_of tables.calls registration.identifier)

-- the rows of what has numbers below this place, from the highest one down to that of the next
-- place
abbrev pub rows_below : {X Y : Type 0} → (X → Y) → List X → ℕ → ℕ → List Y
rows_below row order place next = reverse (map row (drop next (take place order)))

-- These are rows of endpoints below this place, and the others stand below the next place. The
-- table numbers each endpoint once.
pub record AreEndpointRowsBelow (tables : Tables) (place : ℕ) (rows : List EndpointRow) (next : ℕ)
    : Type 0 where
  pub table : Registry
  pub live : table.live ≡ tables.live
  pub numbered : IsNumbered table
  pub rows_are : rows ≡ rows_below (row_in tables) table.order place next

-- the endpoint that was admitted first to a call with these legs
abbrev pub first_of : List Leg → List ℕ
first_of [] = []
first_of (first ∷ others) = first.endpoint

-- the endpoint that joined it
abbrev pub second_of : List Leg → Option (List ℕ)
second_of [] = None
second_of (first ∷ []) = None
second_of (first ∷ second ∷ others) = Some second.endpoint

-- the row of a call
abbrev pub call_row : CallKey → Call → CallRow
call_row key call = record {
  key = key;
  pool = call.pool;
  units = call.units;
  first = first_of call.legs;
  second = second_of call.legs;
}

-- that of a call with its key
abbrev pub call_row_of : CallKey × Call → CallRow
call_row_of entry = call_row entry.0 entry.1

-- These are rows of calls below this place, and the others stand below the next place. The table
-- numbers each call once.
pub record AreCallRowsBelow (tables : Tables) (place : ℕ) (rows : List CallRow) (next : ℕ) : Type 0
  where
    pub table : CallTable
    pub calls : table.calls ≡ tables.calls
    pub numbered : AreNumbered table
    pub rows_are : rows ≡ rows_below call_row_of table.order place next

-- the row is that of an open call
pub record IsCallRow (tables : Tables) (row : CallRow) : Type 0 where
  pub call : Call
  pub is_open : fin.get tables.calls row.key ≡ Some call
  pub row_is : row ≡ call_row row.key call

-- What follows is told of what stood behind the lock of a zone, which was locked in this state.

pub record AreFiguresUnderLock (opened : State) (f : ZoneFigures) (pools : List Figures) : Type 0
  where
    pub held : Held
    pub kept : IsKept opened held
    pub figures : AreFigures held.zone.state f pools

-- Rows of endpoints at places below this one, and the place below which the next ones stand: all of
-- one moment, one for each place between, and each endpoint has one place.
pub record AreEndpointsUnderLock (opened : State) (place : ℕ) (rows : List EndpointRow) (next : ℕ)
    : Type 0 where
  pub held : Held
  pub kept : IsKept opened held
  pub each : All (IsEndpointRow held.zone.state.tables) rows
  pub by_place : AreEndpointRowsBelow held.zone.state.tables place rows next
  pub count : length rows + next ≡ min place (fin.len held.zone.state.tables.live)

-- the same of calls
pub record AreCallsUnderLock (opened : State) (place : ℕ) (rows : List CallRow) (next : ℕ) : Type 0
  where
    pub held : Held
    pub kept : IsKept opened held
    pub each : All (IsCallRow held.zone.state.tables) rows
    pub by_place : AreCallRowsBelow held.zone.state.tables place rows next
    pub count : length rows + next ≡ min place (fin.len held.zone.state.tables.calls)

pub record IsEndpointUnderLock (opened : State) (row : EndpointRow) : Type 0 where
  pub held : Held
  pub kept : IsKept opened held
  pub row_is : IsEndpointRow held.zone.state.tables row

pub record IsCallUnderLock (opened : State) (row : CallRow) : Type 0 where
  pub held : Held
  pub kept : IsKept opened held
  pub row_is : IsCallRow held.zone.state.tables row
