-- How the registrations are stored: rows in a slab, an index to them by identifier and one by call
-- signal address; and in the order of the first index their deadlines, the numbers of legs of their
-- endpoints, and when the silence of each ends.
use Rattle.std.specs.Prelude.{◌≡◌, ◌≤◌, ◌-◌, min, ℕ, List, Option, Some, length, nat_eq, slice_get}
use Rattle.std.specs.Prelude.{Vec, map, vec_capacity}
use Rattle.std.specs.List.{filter_map, zip}
use Rattle.std.specs.Option.{option_and_then, option_map}
use Rattle.std.specs.Cmp.Lexicographic.{pointwise}
use Rattle.std.specs.FinMap as fin
use Rattle.slab.specs.Slab.{Slab, get, slab_len}
use Rattle.indexmap.specs.IndexMap as index
use Rattle.indexmap.specs.IndexMap.{IndexMap, spare}
use Rattle.keyed.specs.Places.{map_of, row_in, AreApart}
use Rattle.deadlines.specs.Deadlines.{Moments, DeadlineTable}
use Rattle.ras_module.specs.declared.address.Address.{Address}
use Rattle.ras_module.specs.Addresses.{same_address}
use Rattle.registrations.specs.declared.registration.Registration.{Registration}
use Rattle.registrations.specs.declared.times.Times.{Times}
use Rattle.registrations.specs.declared.table.TheConstants.Registrations as registrations_table
use Rattle.registrations.specs.inside.Indexes.{IsIndexOf}
use Rattle.registrations.specs.Registry.{LegCounts, Live, Registry, identifier_of, call_signal_of}
use Rattle.registrations.specs.Registry.{live_of}
use Rattle.registrations.specs.Silence.{end_of}

-- an identifier with the place of its row
abbrev pub Entry : Type 0
Entry = List ℕ × ℕ

abbrev pub key_of : Entry → List ℕ
key_of entry = entry.0

abbrev pub place_of : Entry → ℕ
place_of entry = entry.1

-- the rows to which an index leads, in its order
abbrev pub order_of : Slab Registration → List Entry → List Registration
order_of rows entries = filter_map (λ entry. get rows (place_of entry)) entries

abbrev pub deadline_of : Registration → ℕ
deadline_of r = r.deadline

-- each of these rows is due at its deadline, by its place in the list
abbrev pub AreDue : List Registration → Moments → Type 0
AreDue rows moments = (i : ℕ) → fin.get moments i ≡ option_map deadline_of (slice_get rows i)

-- an identifier with a number of legs
abbrev pub Count : Type 0
Count = List ℕ × ℕ

abbrev pub counted_id : Count → List ℕ
counted_id count = count.0

abbrev pub legs_in : Count → ℕ
legs_in count = count.1

-- the identifier of each entry, with the number of legs of its endpoint
abbrev pub counts_of : List Entry → List ℕ → List Count
counts_of entries legs = zip (map key_of entries) legs

abbrev pub leg_counts_of : List Entry → List ℕ → LegCounts
leg_counts_of entries legs = map_of counted_id legs_in (counts_of entries legs)

-- when the silence of the row at this place ends
abbrev pub end_in : Times → List Registration → List ℕ → ℕ → Option ℕ
end_in times rows legs i =
    option_and_then (λ r. option_and_then (λ n. end_of times n r) (slice_get legs i))
    (slice_get rows i)

-- each of these rows has the moment at which its silence ends, by its place in the list
abbrev pub AreEnds : Times → List Registration → List ℕ → Moments → Type 0
AreEnds times rows legs moments = (i : ℕ) → fin.get moments i ≡ end_in times rows legs i

module _ {S : Type 0} (rows : Slab Registration) (by_identifier : IndexMap (List ℕ) ℕ S)
    (by_address : IndexMap Address ℕ S) where
  -- each index leads to all rows, and nowhere else
  pub record IsStored (most : ℕ) : Type 0 where
    pub identifiers : IsIndexOf identifier_of (get rows) (index.get (pointwise nat_eq)
        by_identifier)
    pub addresses : IsIndexOf call_signal_of (get rows) (index.get same_address by_address)
    pub apart : AreApart key_of (row_in by_identifier.entries)
    pub few : length by_identifier.entries ≤ most
    pub most_few : most ≤ registrations_table.MOST
    pub fits : slab_len rows ≤ rows.capacity

  module _ {Z : Type 0} (deadlines : DeadlineTable) (legs : Vec ℕ Z) (ends : DeadlineTable) where
    -- how many more registrations fit in each of these parts
    abbrev pub room_of : ℕ
    room_of =
        min (min (rows.capacity - slab_len rows) (deadlines.room - length by_identifier.entries))
        (min (min (spare by_identifier) (spare by_address))
        (min (vec_capacity legs - length by_identifier.entries)
        (ends.room - length by_identifier.entries)))

    -- the value of the table
    abbrev pub registry_of : Times → ℕ → ℕ → Registry
    registry_of times most start = record {
      live = live_of (order_of rows by_identifier.entries);
      most = most;
      room = room_of;
      order = order_of rows by_identifier.entries;
      legs = leg_counts_of by_identifier.entries legs.items;
      times = times;
      next = start;
    }

    -- the rows have their places in each of these parts
    pub record HavePlaces : Type 0 where
      pub reach : length by_identifier.entries ≤ deadlines.room
      pub counted : length legs.items ≡ length by_identifier.entries
      pub ends_reach : length by_identifier.entries ≤ ends.room

    -- all rows are stored so, each is due at its deadline, and has the end of its silence
    pub record IsTable (times : Times) (most : ℕ) : Type 0 where
      pub stored : IsStored most
      pub places : HavePlaces
      pub due : AreDue (order_of rows by_identifier.entries) deadlines.moments
      pub silences : AreEnds times (order_of rows by_identifier.entries) legs.items ends.moments

-- this registration is one of those that are live
abbrev pub IsIn : Live → Registration → Type 0
IsIn live r = fin.get live (identifier_of r) ≡ Some r

-- each of these rows is one of those that are live
abbrev pub AreAllIn : Live → Slab Registration → Type 0
AreAllIn live rows = (place : ℕ) (r : Registration) → get rows place ≡ Some r → IsIn live r
