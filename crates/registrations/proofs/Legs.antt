-- The numbers of legs of a table, and when the silences of its endpoints end, by its value.
use Rattle.std.proofs.Common.{◌≡◌, ◌≤◌, ℕ, List, length, nat_eq, refl, sym, ◌∙◌, ap}
use Rattle.std.proofs.Common.{Some, None, get_or}
use Rattle.std.specs.Prelude.{Option, Vec, slice_get}
use Rattle.std.specs.Option.{IsSomeAnd, option_and_then}
use Rattle.std.specs.Cmp.Lexicographic.{pointwise}
use Rattle.std.specs.FinMap as fin
use Rattle.std.specs.HashMap as hash
use Rattle.std.specs.HashMap.{HashMap}
use Rattle.std.proofs.lemmas.Cmp.{nat_list_cmp_total}
use Rattle.std.proofs.lemmas.Map.Lookups.{exact_bytes}
use Rattle.std.proofs.lemmas.Option.{slice_get_read}
use Rattle.slab.specs.Slab.{Slab}
use Rattle.deadlines.specs.Deadlines.{DeadlineTable}
use Rattle.keyed.proofs.Decide.{same_some, some_none}
use Rattle.keyed.proofs.Maps.{by_key, Changed-insert}
use Rattle.ras_module.specs.declared.address.Address.{Address}
use Rattle.registrations.specs.declared.registration.Registration.{Registration}
use Rattle.registrations.specs.declared.times.Times.{Times}
use Rattle.registrations.specs.Registry.{LegCounts, Live, Registry, identifier_of}
use Rattle.registrations.specs.Silence.{HasEnded, end_at, end_of}
use Rattle.registrations.specs.inside.Stored.{IsTable, key_of}
use Rattle.registrations.specs.inside.Stored.{place_of, registry_of}
use Rattle.registrations.proofs.Counting.{count_at}
use Rattle.registrations.proofs.Order.{from_order}
use Rattle.registrations.proofs.Rows.{live_row}
use Rattle.registrations.proofs.Stored.{are_rows, leads, legs_at, not_counted, registered}
use Rattle.registrations.proofs.Stored.{row_at, stored_map}
use Rattle.registrations.proofs.Tables.{legs_reach}

-- when the silence of an endpoint of a table ends
abbrev end_in_table : Registry → List ℕ → Option ℕ
end_in_table t id = end_at t.times t.live t.legs id

module _ {S Z : Type 0} (rows : Slab Registration) (by_identifier : HashMap (List ℕ) ℕ S)
    (by_address : HashMap Address ℕ S) (deadlines : DeadlineTable) (legs : Vec ℕ Z)
    (ends : DeadlineTable) (times : Times) (most : ℕ)
    (start : ℕ) (s : IsTable rows by_identifier by_address deadlines legs ends times most) where
  abbrev here : Registry
  here = registry_of rows by_identifier by_address deadlines legs ends times most start

  -- a row has the number of legs that stands at its place
  legs_of_row : (i : ℕ) (r : Registration) → slice_get here.order i ≡ Some r
      → fin.get here.legs r.identifier ≡ slice_get legs.items i
  legs_of_row i r there =
      let e = from_order rows by_identifier.entries
      (leads rows by_identifier by_address most s.stored) i r there in
      let row = leads rows by_identifier by_address most s.stored i e.0 e.1 in
      let own : r.identifier ≡ key_of e.0 =
      ap identifier_of (same_some r row.0 (sym e.2 ∙ row.1)) ∙ row.2 in
      ap (fin.get here.legs) own
      ∙ count_at by_identifier.entries legs.items s.stored.apart s.places.counted i e.0 e.1

  live_of_row : (i : ℕ) (r : Registration) → slice_get here.order i ≡ Some r
      → fin.get here.live r.identifier ≡ Some r
  live_of_row i r there =
      let e = from_order rows by_identifier.entries
      (leads rows by_identifier by_address most s.stored) i r there in
      (stored_map rows by_identifier by_address most s.stored).has (place_of e.0) r e.2

  -- its silence ends at the moment that stands at its place
  end_of_row : (i : ℕ) (r : Registration) → slice_get here.order i ≡ Some r
      → fin.get ends.moments i ≡ end_in_table here r.identifier
  end_of_row i r there =
      s.silences i
      ∙ (ap (option_and_then (λ x. option_and_then (λ n. end_of times n x)
      (slice_get legs.items i))) there
      ∙ (ap (option_and_then (λ n. end_of times n r)) (sym (legs_of_row i r there))
      ∙ sym (ap (option_and_then (λ x. option_and_then (λ n. end_of times n x)
      (fin.get here.legs r.identifier))) (live_of_row i r there))))

  place_of_end : (id : List ℕ) (m : ℕ) → end_in_table here id ≡ Some m
      → (i : ℕ) × (fin.get ends.moments i ≡ Some m)
  place_of_end id m is = cases (fin.get here.live id) refl where
    cases : (w : Option Registration) → fin.get here.live id ≡ w
        → (i : ℕ) × (fin.get ends.moments i ≡ Some m)
    cases None none = some_none (sym is ∙ ap (option_and_then (λ x. option_and_then
        (λ n. end_of times n x) (fin.get here.legs id))) none)
    cases (Some r) found =
        let row = live_row here.order (are_rows rows by_identifier by_address most s.stored) id r
        found in
        (row.0, end_of_row row.0 r row.1 ∙ (ap (end_in_table here) row.2 ∙ is))

  module _ (t : Registry) (view : here ≡ t) where
    pub legs_nth : (i : ℕ) (r : Registration) → slice_get t.order i ≡ Some r
        → fin.get t.legs r.identifier ≡ slice_get legs.items i
    legs_nth i r there = ap (λ (u : Registry). fin.get u.legs r.identifier) (sym view)
        ∙ legs_of_row i r (ap (λ (u : Registry). slice_get u.order i) view ∙ there)

    pub end_nth : (i : ℕ) (r : Registration) → slice_get t.order i ≡ Some r
        → fin.get ends.moments i ≡ end_in_table t r.identifier
    end_nth i r there = end_of_row i r (ap (λ (u : Registry). slice_get u.order i) view ∙ there)
        ∙ ap (λ (u : Registry). end_in_table u r.identifier) view

    pub end_none : (i : ℕ) → slice_get t.order i ≡ None → fin.get ends.moments i ≡ None
    end_none i none = s.silences i
        ∙ ap (option_and_then (λ x. option_and_then (λ n. end_of times n x)
        (slice_get legs.items i))) (ap (λ (u : Registry). slice_get u.order i) view ∙ none)

    -- a silence that has ended is one of those that are kept
    pub ended_place : (now : ℕ) (id : List ℕ) → HasEnded now t.times t.live t.legs id
        → (i : ℕ) × (m : ℕ) × (fin.get ends.moments i ≡ Some m) × (m ≤ now)
    ended_place now id ended = cases (end_in_table t id) refl ended where
      cases : (w : Option ℕ) → end_in_table t id ≡ w → IsSomeAnd w (λ m. m ≤ now)
          → (i : ℕ) × (m : ℕ) × (fin.get ends.moments i ≡ Some m) × (m ≤ now)
      cases None is h = absurd h
      cases (Some m) is h =
          let place = place_of_end id m (ap (λ (u : Registry). end_in_table u id) view ∙ is) in
          (place.0, m, place.1, h)

    -- an endpoint that isn't registered has no number of legs
    pub uncounted : (id : List ℕ) → fin.get t.live id ≡ None → fin.get t.legs id ≡ None
    uncounted id none = cases (hash.get (pointwise nat_eq) by_identifier id) refl where
      cases : (w : Option ℕ) → hash.get (pointwise nat_eq) by_identifier id ≡ w
          → fin.get t.legs id ≡ None
      cases None is = not_counted rows by_identifier by_address deadlines legs ends times most
          s.stored t view id is
      cases (Some i) is =
          let row = row_at rows by_identifier by_address most s.stored id i is in
          some_none (sym (registered rows by_identifier by_address deadlines legs ends times most
          s.stored t view id i is row.0 row.1).1 ∙ none)

    -- the number of legs that is read where an identifier leads
    pub legs_read : (id : List ℕ) (place j : ℕ)
        → hash.get (pointwise nat_eq) by_identifier id ≡ Some place
        → IsSomeAnd (slice_get by_identifier.entries j) (λ e. e.1 ≡ place) → (n : ℕ)
        → n ≡ get_or legs.items j n → fin.get t.legs id ≡ Some n
    legs_read id place j is at n count =
        legs_at rows by_identifier by_address deadlines legs ends times most s.stored t view
        s.places.counted id place j is at
        ∙ slice_get_read legs.items (length legs.items) j n refl
        (legs_reach rows by_identifier by_address deadlines legs ends times most s j _ at) count

-- numbers of legs of these registrations that are those of another table
abbrev pub HaveLegs : LegCounts → Live → LegCounts → Type 0
HaveLegs all live legs =
    (id : List ℕ) → fin.get legs id ≡ option_and_then (λ r. fin.get all id) (fin.get live id)

pub same_legs : (all : LegCounts) (live : Live) (legs : LegCounts) → HaveLegs all live legs
    → ((id : List ℕ) → fin.get live id ≡ None → fin.get all id ≡ None) → legs ≡ all
same_legs all live legs have none =
    fin.same_map nat_list_cmp_total exact_bytes legs all
    (λ id. have id ∙ cases id (fin.get live id) refl) where
      cases : (id : List ℕ) (w : Option Registration) → fin.get live id ≡ w
          → option_and_then (λ r. fin.get all id) w ≡ fin.get all id
      cases id None is = sym (none id is)
      cases id (Some r) is = refl

pub HaveLegs-put : (all : LegCounts) (live next : Live) (legs after : LegCounts)
    (r : Registration) (n : ℕ) → HaveLegs all live legs
    → next ≡ fin.insert live r.identifier r → after ≡ fin.insert legs r.identifier n
    → fin.get all r.identifier ≡ Some n → HaveLegs all next after
HaveLegs-put all live next legs after r n have more counts is id =
    let c = Changed-insert nat_list_cmp_total exact_bytes live r.identifier r in
    let d = Changed-insert nat_list_cmp_total exact_bytes legs r.identifier n in
    ap (λ (m : LegCounts). fin.get m id) counts
    ∙ (by_key nat_list_cmp_total exact_bytes id r.identifier
    (fin.get (fin.insert legs r.identifier n) id
    ≡ option_and_then (λ x. fin.get all id) (fin.get (fin.insert live r.identifier r) id))
    (λ p. ap (fin.get (fin.insert legs r.identifier n)) p
    ∙ (d.here ∙ (sym is ∙ (ap (fin.get all) (sym p)
    ∙ sym (ap (option_and_then (λ x. fin.get all id))
    (ap (fin.get (fin.insert live r.identifier r)) p ∙ c.here))))))
    (λ differ. d.others id differ ∙ (have id
    ∙ ap (option_and_then (λ x. fin.get all id)) (sym (c.others id differ))))
    ∙ ap (λ (m : Live). option_and_then (λ x. fin.get all id) (fin.get m id)) (sym more))
