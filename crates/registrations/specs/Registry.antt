-- The registrations of a zone, as a finite map from identifiers.
use Rattle.std.specs.Prelude.{◌≡◌, ◌≤◌, ◌+◌, ℕ, List, Option, Some, None, Contains}
use Rattle.std.specs.List.{find}
use Rattle.std.specs.Ordering.{nat_cmp}
use Rattle.std.specs.Cmp.Lexicographic.{slice_cmp}
use Rattle.std.specs.FinMap.{FinMap, get, len, values, entries}
use Rattle.keyed.specs.Places as places
use Rattle.ras_module.specs.declared.address.Address.{Address}
use Rattle.ras_module.specs.declared.alias.Alias.{Alias}
use Rattle.ras_module.specs.Addresses.{same_address}
use Rattle.ras_module.specs.Texts.{IsText}
use Rattle.registrations.specs.declared.registration.Registration.{Registration}
use Rattle.registrations.specs.declared.times.Times.{Times}

-- what is registered under each identifier
abbrev pub Live : Type 0
Live = FinMap (slice_cmp nat_cmp) Registration

-- in how many calls each endpoint that is registered has a leg
abbrev pub LegCounts : Type 0
LegCounts = FinMap (slice_cmp nat_cmp) ℕ

-- the registrations, the most that there may be, how many more can be added so that no memory is
-- taken for them, the order in which the registrations are numbered, the number of legs of each
-- endpoint, how long an endpoint with a leg may be silent, and the number at which the search for
-- an unused identifier begins
pub record Registry : Type 0 where
  pub live : Live
  pub most : ℕ
  pub room : ℕ
  pub order : List Registration
  pub legs : LegCounts
  pub times : Times
  pub next : ℕ

abbrev pub identifier_of : Registration → List ℕ
identifier_of r = r.identifier

abbrev pub call_signal_of : Registration → Address
call_signal_of r = r.call_signal

abbrev pub entries_of : List Registration → List (List ℕ × Registration)
entries_of rows = places.entries_of identifier_of (λ r. r) rows

abbrev pub live_of : List Registration → Live
live_of rows = places.map_of identifier_of (λ r. r) rows

-- the list has the registrations of the map, by rising identifier
abbrev pub IsListOf : Live → List Registration → Type 0
IsListOf live list = entries_of list ≡ entries live

-- the endpoint with this call signal address
abbrev pub at_address : Live → Address → Option Registration
at_address live address = find (λ r. same_address r.call_signal address) (values live)

-- all registrations are numbered, each once
pub record IsNumbered (t : Registry) : Type 0 where
  pub all : live_of t.order ≡ t.live
  pub once : places.AreApart identifier_of (places.row_in t.order)

-- an identifier that may be handed out: no registration has it, it is none of those that are taken,
-- and it has 1 to 128 characters (H.225.0, EndpointIdentifier)
pub record IsUnused (live : Live) (taken : List (List ℕ)) (id : List ℕ) : Type 0 where
  pub not_live : get live id ≡ None
  pub not_taken : Contains taken id → ⊥
  pub text : IsText 128 id

-- the table has the same registrations, in the same order, with the same legs, no less room, and
-- searches for an unused identifier from the same number
pub record Stays (old new : Registry) : Type 0 where
  pub rows : new.live ≡ old.live
  pub most : new.most ≡ old.most
  pub order : new.order ≡ old.order
  pub room : old.room ≤ new.room
  pub legs : new.legs ≡ old.legs
  pub times : new.times ≡ old.times
  pub next : new.next ≡ old.next

-- a registration that is given another identifier
abbrev pub with_identifier : List ℕ → Registration → Registration
with_identifier id r = record r { identifier = id }

-- it has a new time to live
abbrev pub with_deadline : ℕ → Registration → Registration
with_deadline deadline r = record r { deadline = deadline }

-- a full registration takes the place of an earlier one
abbrev pub after_rewrite : Address → List Alias → ℕ → Registration → Registration
after_rewrite ras aliases deadline r =
    record r { ras = ras; aliases = aliases; deadline = deadline }

-- it was heard now
abbrev pub after_hear : ℕ → Registration → Registration
after_hear now r = record r { heard = now; tries = 0 }

-- it was asked for a sign of life now
abbrev pub after_ask : ℕ → Registration → Registration
after_ask now r = record r { asked = now; tries = r.tries + 1 }

-- its tries are counted from 0 again
abbrev pub after_calm : Registration → Registration
after_calm r = record r { tries = 0 }

-- each registration stands under its own identifier, and no two share a call signal address
pub record IsConsistent (live : Live) : Type 0 where
  pub own : (id : List ℕ) (r : Registration) → get live id ≡ Some r → r.identifier ≡ id
  pub apart : (i j : List ℕ) (r s : Registration) → get live i ≡ Some r → get live j ≡ Some s
      → r.call_signal ≡ s.call_signal → i ≡ j

-- what holds of every table
pub record IsSound (t : Registry) : Type 0 where
  pub consistent : IsConsistent t.live
  pub few : len t.live ≤ t.most

-- after a change of one registration, for which no memory is asked, the table has these
pub record Updates (old new : Registry) (live : Live) : Type 0 where
  pub rows : new.live ≡ live
  pub most : new.most ≡ old.most
  pub room : new.room ≡ old.room
  pub sound : IsSound new
  pub legs : new.legs ≡ old.legs
  pub times : new.times ≡ old.times
  pub next : new.next ≡ old.next

-- after a change that takes no memory and no room, the table has these
pub record Becomes (old new : Registry) (live : Live) : Type 0 where
  pub rows : new.live ≡ live
  pub most : new.most ≡ old.most
  pub room : old.room ≤ new.room
  pub sound : IsSound new
  pub times : new.times ≡ old.times
  pub next : new.next ≡ old.next

-- after one more registration was added, the table has these
pub record Adds (old new : Registry) (live : Live) : Type 0 where
  pub rows : new.live ≡ live
  pub most : new.most ≡ old.most
  pub room : old.room ≤ new.room + 1
  pub sound : IsSound new
  pub times : new.times ≡ old.times

-- after an endpoint took part in more calls or in fewer, these are the numbers of legs
pub record Counts (old new : Registry) (counts : LegCounts) : Type 0 where
  pub rows : new.live ≡ old.live
  pub most : new.most ≡ old.most
  pub room : new.room ≡ old.room
  pub legs : new.legs ≡ counts
  pub times : new.times ≡ old.times
  pub next : new.next ≡ old.next
  pub sound : IsSound new
