-- What is stored, and the map that it makes.
use Rattle.std.proofs.Common.{Bor, ◌≡◌, ℕ, zero, suc, ◌≤◌, ◌<◌, List, [], ◌∷◌, ◌++◌, length, ◌+◌}
use Rattle.std.proofs.Common.{nat_eq, refl, sym, ◌∙◌, ap, subst, cond, Some, None, arith}
use Rattle.std.specs.Prelude.{Option, IsSome, IfSome, slice_get, slice_index_or, is_some, count_by}
use Rattle.std.specs.Prelude.{◌-◌, min, Vec, vec_capacity}
use Rattle.std.specs.Option.{option_copied, option_map, IsSomeAnd}
use Rattle.std.proofs.Math.ListN.{set}
use Rattle.std.proofs.lemmas.List.{length-append}
use Rattle.std.proofs.lemmas.List.Sums.{sum_by-cons}
use Rattle.std.specs.Map.{lookup}
use Rattle.std.specs.Cmp.Lexicographic.{pointwise, slice_cmp}
use Rattle.std.specs.Ordering.{nat_cmp}
use Rattle.std.specs.FinMap as fin
use Rattle.std.specs.HashMap as hash
use Rattle.std.specs.HashMap.{HashMap}
use Rattle.std.proofs.lemmas.Cmp.{nat_list_cmp_total}
use Rattle.std.proofs.lemmas.Map.Lookups.{exact_bytes}
use Rattle.indexmap.specs.IndexMap.{insert_entry, spare}
use Rattle.indexmap.proofs.CallerLemmas.{insert_entry-new}
use Rattle.slab.specs.Slab.{Slab, get, slab_len, Updates, with_value}
use Rattle.slab.proofs.SlabLemmas.{Updates-with_value}
use Rattle.deadlines.specs.Deadlines.{DeadlineTable}
use Rattle.keyed.specs.Maps.{update, put_if, Changed}
use Rattle.keyed.specs.Places.{row_in, AreApart}
use Rattle.keyed.proofs.Decide.{some_none, same_some}
use Rattle.keyed.proofs.Entries as entries
use Rattle.keyed.proofs.Listed.{IsMapOf-pairs, one_pair}
use Rattle.keyed.proofs.Maps as maps
use Rattle.keyed.proofs.Places as places
use Rattle.keyed.proofs.Places.{IsMapOf}
use Rattle.keyed.proofs.Rows.{IsMapOf-rows, map_push}
use Rattle.ras_module.specs.declared.address.Address.{Address}
use Rattle.ras_module.specs.Addresses.{same_address}
use Rattle.ras_module.specs.Same.{texts_decide, address_decides}
use Rattle.registrations.specs.declared.table.TheConstants.Registrations as registrations_table
use Rattle.registrations.specs.declared.registration.Registration.{Registration}
use Rattle.registrations.specs.declared.times.Times.{Times}
use Rattle.registrations.specs.Registry.{Live, Registry, IsSound, IsConsistent, Becomes, Counts}
use Rattle.registrations.specs.Registry.{LegCounts}
use Rattle.registrations.specs.Registry.{Updates as UpdatesOne, IsNumbered}
use Rattle.registrations.specs.Registry.{live_of, at_address, identifier_of, call_signal_of}
use Rattle.registrations.specs.inside.Stored.{Entry, key_of, place_of, order_of, room_of}
use Rattle.registrations.specs.inside.Stored.{registry_of, IsStored, AreDue, deadline_of}
use Rattle.registrations.specs.inside.Stored.{leg_counts_of}
use Rattle.registrations.proofs.Counting.{count_at, counted_key}
use Rattle.registrations.proofs.Indexes as indexes
use Rattle.registrations.proofs.Order.{EachLeads, order_at, order_put, from_order, length_order}
use Rattle.registrations.proofs.Order.{order_changed}
use Rattle.registrations.proofs.Rows.{AreRows, len_live, live_row, IsConsistent-rows}

module _ {S : Type 0} (rows : Slab Registration) (by_identifier : HashMap (List ℕ) ℕ S)
    (by_address : HashMap Address ℕ S) where
  abbrev named : List ℕ → Option ℕ
  named = hash.get (pointwise nat_eq) by_identifier

  abbrev placed : Address → Option ℕ
  placed = hash.get same_address by_address

  abbrev order : List Registration
  order = order_of rows by_identifier.entries

  abbrev live : Live
  live = live_of order

  module _ (most : ℕ) (s : IsStored rows by_identifier by_address most) where
    -- each entry is what its identifier leads to
    entries_map : IsMapOf entries.key_of entries.value_of (row_in by_identifier.entries)
        (fin.from_entries {R = slice_cmp nat_cmp} by_identifier.entries)
    entries_map = IsMapOf-pairs nat_list_cmp_total exact_bytes by_identifier.entries s.apart

    pub entry_named : (j : ℕ) (e : Entry) → slice_get by_identifier.entries j ≡ Some e
        → named (key_of e) ≡ Some (place_of e)
    entry_named j e there =
        sym (entries.get_entries texts_decide nat_list_cmp_total exact_bytes by_identifier.entries
        (key_of e)) ∙ entries_map.has j e there

    pub named_entry : (id : List ℕ) (i : ℕ) → named id ≡ Some i
        → (j : ℕ) × (slice_get by_identifier.entries j ≡ Some (id, i))
    named_entry id i is =
        let stands = entries_map.stands id i (entries.get_entries texts_decide nat_list_cmp_total
        exact_bytes by_identifier.entries id ∙ is) in (
          stands.0,
          stands.2.there
              ∙ ap Some (one_pair stands.1 (id, i) stands.2.key_is stands.2.value_is),
        )

    -- the row to which an index leads
    pub row_at : (id : List ℕ) (i : ℕ) → named id ≡ Some i
        → (r : Registration) × (get rows i ≡ Some r) × (r.identifier ≡ id)
    row_at id i is = indexes.indexed_row identifier_of (get rows) named s.identifiers id i is

    -- the entry of an identifier, if a look-up found it
    pub entry_at : (id : List ℕ) (place j : ℕ) → named id ≡ Some place
        → IsSomeAnd (slice_get by_identifier.entries j) (λ e. e.1 ≡ place)
        → slice_get by_identifier.entries j ≡ Some (id, place)
    entry_at id place j is has = cases (slice_get by_identifier.entries j) refl has where
      cases : (w : Option Entry) → slice_get by_identifier.entries j ≡ w
          → IsSomeAnd w (λ e. e.1 ≡ place) → slice_get by_identifier.entries j ≡ Some (id, place)
      cases None there same = absurd same
      cases (Some e) there same =
          let its = row_at (key_of e) place (entry_named j e there ∙ ap Some same) in
          let own = row_at id place is in
          let key = sym its.2 ∙ (ap identifier_of (same_some its.0 own.0 (sym its.1 ∙ own.1))
          ∙ own.2) in
          there ∙ ap Some (one_pair e (id, place) key same)

    pub is_stored : (id : List ℕ) (i : ℕ) → named id ≡ Some i → IsSome (get rows i)
    is_stored id i is = subst IsSome (sym (row_at id i is).1) refl

    pub leads : EachLeads rows by_identifier.entries
    leads j e there = row_at (key_of e) (place_of e) (entry_named j e there)

    pub apart_ids : AreApart identifier_of (get rows)
    apart_ids = indexes.AreApart-indexed identifier_of (get rows) named s.identifiers

    apart_addresses : AreApart call_signal_of (get rows)
    apart_addresses = indexes.AreApart-indexed call_signal_of (get rows) placed s.addresses

    -- the rows in order share neither identifiers nor addresses
    pub are_rows : AreRows order
    are_rows = record {
      ids = record { apart = by_identifiers };
      addresses = record { apart = by_addresses };
    } where
      by_identifiers : (i j : ℕ) (r t : Registration) → slice_get order i ≡ Some r
          → slice_get order j ≡ Some t → r.identifier ≡ t.identifier → i ≡ j
      by_identifiers i j r t p q e =
          let a = from_order rows by_identifier.entries leads i r p in
          let b = from_order rows by_identifier.entries leads j t q in
          let x = leads i a.0 a.1 in
          let y = leads j b.0 b.1 in
          s.apart.apart i j a.0 b.0 a.1 b.1 (sym x.2
          ∙ (ap identifier_of (same_some x.0 r (sym x.1 ∙ a.2)) ∙ (e
          ∙ (ap identifier_of (same_some t y.0 (sym b.2 ∙ y.1)) ∙ y.2))))

      by_addresses : (i j : ℕ) (r t : Registration) → slice_get order i ≡ Some r
          → slice_get order j ≡ Some t → r.call_signal ≡ t.call_signal → i ≡ j
      by_addresses i j r t p q e =
          let a = from_order rows by_identifier.entries leads i r p in
          let b = from_order rows by_identifier.entries leads j t q in
          let place = apart_addresses.apart (place_of a.0) (place_of b.0) r t a.2 b.2 e in
          let is : r ≡ t = same_some r t (sym a.2 ∙ (ap (get rows) place ∙ b.2)) in
          by_identifiers i j r t p q (ap identifier_of is)

    -- the map has each stored row, and nothing else
    pub stored_map : IsMapOf identifier_of (λ r. r) (get rows) live
    stored_map =
        let of = IsMapOf-rows nat_list_cmp_total exact_bytes identifier_of (λ r. r) order
        are_rows.ids in
        record {
          has = λ i r there.
              (let entry = named_entry r.identifier i (s.identifiers.listed i r there) in
              of.has entry.0 r
              (order_at rows by_identifier.entries leads entry.0 (r.identifier, i) entry.1
              ∙ there));
          stands = λ k v e.
              (let stands = of.stands k v e in
              let entry = from_order rows by_identifier.entries leads stands.0 stands.1
              stands.2.there in (
                place_of entry.0,
                stands.1,
                record {
                  there = entry.2;
                  key_is = stands.2.key_is;
                  value_is = stands.2.value_is;
                },
              ));
        }

    pub get_at : (id : List ℕ) (i : ℕ) → named id ≡ Some i → fin.get live id ≡ get rows i
    get_at id i is = indexes.get_indexed identifier_of (get rows) named s.identifiers live
        stored_map id i is

    pub get_none : (id : List ℕ) → named id ≡ None → fin.get live id ≡ None
    get_none id is = indexes.get_unindexed identifier_of (get rows) named s.identifiers live
        stored_map id is

    pub address_at : (address : Address) (i : ℕ) → placed address ≡ Some i
        → at_address live address ≡ get rows i
    address_at address i is = indexes.find_indexed nat_list_cmp_total exact_bytes identifier_of
        call_signal_of address_decides (get rows) placed s.addresses live stored_map address i is

    pub address_none : (address : Address) → placed address ≡ None
        → at_address live address ≡ None
    address_none address is = indexes.find_unindexed nat_list_cmp_total exact_bytes identifier_of
        call_signal_of address_decides (get rows) placed s.addresses live stored_map address is

    pub len_stored : fin.len live ≡ length by_identifier.entries
    len_stored = len_live order are_rows ∙ length_order rows by_identifier.entries leads

    pub IsSound-stored : {Z : Type 0} (deadlines : DeadlineTable) (legs : Vec ℕ Z)
        (ends : DeadlineTable) (times : Times) (start : ℕ)
        → IsSound (registry_of rows by_identifier by_address deadlines legs ends times most start)
    IsSound-stored deadlines legs ends times start = record {
      consistent = IsConsistent-rows order are_rows;
      few = omega (arith, len_stored, s.few);
    }

-- what an empty table stores
pub IsStored-empty : {S : Type 0} (rows : Slab Registration) (by_identifier : HashMap (List ℕ) ℕ S)
    (by_address : HashMap Address ℕ S) (most : ℕ) → rows.slots ≡ [] → by_identifier.entries ≡ []
    → by_address.entries ≡ [] → most ≤ registrations_table.MOST
    → IsStored rows by_identifier by_address most
IsStored-empty rows by_identifier by_address most slots ids addresses few = record {
  identifiers = record {
    leads = λ a i e. some_none (sym e ∙ ap (lookup (pointwise nat_eq a)) ids);
    listed = λ i r e. some_none (sym e ∙ ap (λ ss. slice_index_or ss i None) slots);
  };
  addresses = record {
    leads = λ a i e. some_none (sym e ∙ ap (lookup (same_address a)) addresses);
    listed = λ i r e. some_none (sym e ∙ ap (λ ss. slice_index_or ss i None) slots);
  };
  apart = record {
    apart = λ i j r t p q e. some_none (sym p ∙ ap (λ es. slice_get es i) ids);
  };
  few = omega (arith, ap length ids);
  most_few = few;
  fits = omega (arith, ap (λ ss. slab_len (record rows { slots = ss })) slots);
}

module _ {S : Type 0} (rows : Slab Registration) (by_identifier : HashMap (List ℕ) ℕ S)
    (by_address : HashMap Address ℕ S) (most : ℕ)
    (s : IsStored rows by_identifier by_address most) where
  module _ (next : Slab Registration) (next_named : HashMap (List ℕ) ℕ S)
      (next_placed : HashMap Address ℕ S) (i : ℕ) where
    -- the map, once it is known what stands where
    live_is : (m : Live) → IsStored next next_named next_placed most
        → IsMapOf identifier_of (λ r. r) (get next) m → live next next_named next_placed ≡ m
    live_is m t of = places.one_map nat_list_cmp_total exact_bytes identifier_of (λ r. r) (get next)
        _ m (stored_map next next_named next_placed most t) of

    -- a registration is entered at an empty place
    module _ (r : Registration) (u : Updates rows next i (Some r)) (vacant : get rows i ≡ None)
        (new_id : fin.get (live rows by_identifier by_address) r.identifier ≡ None) where
      pub unnamed : hash.get (pointwise nat_eq) by_identifier r.identifier ≡ None
      unnamed = indexes.unindexed identifier_of (get rows) _ s.identifiers
          (live rows by_identifier by_address)
          (stored_map rows by_identifier by_address most s) r.identifier new_id

      pub entries_put : next_named.entries
          ≡ insert_entry (pointwise nat_eq) by_identifier.entries r.identifier i
          → next_named.entries ≡ by_identifier.entries ++ (r.identifier, i) ∷ []
      entries_put is = is ∙ insert_entry-new (pointwise nat_eq) by_identifier r.identifier i unnamed

      pub length_put : next_named.entries
          ≡ insert_entry (pointwise nat_eq) by_identifier.entries r.identifier i
          → length next_named.entries ≡ length by_identifier.entries + 1
      length_put is = ap length (entries_put is)
          ∙ length-append by_identifier.entries ((r.identifier, i) ∷ [])

      pub IsStored-put : hash.Updates (pointwise nat_eq) by_identifier next_named r.identifier
          (Some i)
          → hash.Updates same_address by_address next_placed r.call_signal (Some i)
          → hash.IsUnique (pointwise nat_eq) next_named
          → next_named.entries
          ≡ insert_entry (pointwise nat_eq) by_identifier.entries r.identifier i
          → at_address (live rows by_identifier by_address) r.call_signal ≡ None
          → length by_identifier.entries < most → slab_len next ≤ next.capacity
          → IsStored next next_named next_placed most
      IsStored-put ud ua unique is free few fits =
          let c = indexes.Changed-slab rows next i (Some r) u in
          let unplaced = indexes.unindexed_part nat_list_cmp_total exact_bytes identifier_of
          call_signal_of address_decides (get rows) _ s.addresses
          (live rows by_identifier by_address) (stored_map rows by_identifier by_address most s)
          r.call_signal free in
          record {
            identifiers = indexes.IsIndexOf-put identifier_of texts_decide (get rows) (get next)
                (hash.get (pointwise nat_eq) by_identifier)
                (hash.get (pointwise nat_eq) next_named) i r s.identifiers vacant unnamed c
                (indexes.Changed-index texts_decide by_identifier next_named r.identifier
                (Some i) ud);
            addresses = indexes.IsIndexOf-put call_signal_of address_decides (get rows) (get next)
                (hash.get same_address by_address) (hash.get same_address next_placed) i r
                s.addresses vacant unplaced c (indexes.Changed-index address_decides by_address
                next_placed r.call_signal (Some i) ua);
            apart = entries.AreApart-entries texts_decide next_named.entries unique;
            few = omega (arith, few, length_put is);
            most_few = s.most_few;
            fits = fits;
          }

      pub order_is : next_named.entries
          ≡ insert_entry (pointwise nat_eq) by_identifier.entries r.identifier i
          → order next next_named next_placed ≡ order rows by_identifier by_address ++ r ∷ []
      order_is is = ap (order_of next) (entries_put is)
          ∙ order_put rows next by_identifier.entries r.identifier i r
          (leads rows by_identifier by_address most s) vacant u

      pub live_put : next_named.entries
          ≡ insert_entry (pointwise nat_eq) by_identifier.entries r.identifier i
          → live next next_named next_placed
          ≡ fin.insert (live rows by_identifier by_address) r.identifier r
      live_put is = ap live_of (order_is is)
          ∙ map_push nat_list_cmp_total exact_bytes identifier_of (λ x. x)
          (order rows by_identifier by_address) r new_id

    -- a registration is taken out
    module _ (r : Registration) (u : Updates rows next i None) (there : get rows i ≡ Some r) where
      pub IsStored-remove : hash.Updates (pointwise nat_eq) by_identifier next_named r.identifier
          None
          → hash.Updates same_address by_address next_placed r.call_signal None
          → hash.IsUnique (pointwise nat_eq) next_named
          → length next_named.entries ≤ length by_identifier.entries
          → slab_len next ≤ next.capacity → IsStored next next_named next_placed most
      IsStored-remove ud ua unique fewer fits =
          let c = indexes.Changed-slab rows next i None u in
          record {
            identifiers = indexes.IsIndexOf-clear identifier_of texts_decide (get rows) (get next)
                (hash.get (pointwise nat_eq) by_identifier)
                (hash.get (pointwise nat_eq) next_named) i r s.identifiers there c
                (indexes.Changed-index texts_decide by_identifier next_named r.identifier None ud);
            addresses = indexes.IsIndexOf-clear call_signal_of address_decides (get rows)
                (get next) (hash.get same_address by_address) (hash.get same_address next_placed)
                i r s.addresses there c (indexes.Changed-index address_decides by_address
                next_placed r.call_signal None ua);
            apart = entries.AreApart-entries texts_decide next_named.entries unique;
            few = omega (arith, fewer, s.few);
            most_few = s.most_few;
            fits = fits;
          }

      pub live_remove : IsStored next next_named next_placed most
          → live next next_named next_placed
          ≡ fin.remove (live rows by_identifier by_address) r.identifier
      live_remove t = live_is _ t (indexes.IsMapOf-clear nat_list_cmp_total exact_bytes
          identifier_of (λ x. x) (get rows) (get next) i r (live rows by_identifier by_address)
          (stored_map rows by_identifier by_address most s)
          (apart_ids rows by_identifier by_address most s) there
          (indexes.Changed-slab rows next i None u))

-- if a row is rewritten, the number of rows stays
count_set : {X : Type 0} (slots : List (Option X)) (i : ℕ) (v : X)
    → IsSome (slice_index_or slots i None)
    → count_by is_some (set slots i (Some v)) ≡ count_by is_some slots
count_set [] i v h = absurd (cc h)
count_set (None ∷ slots) zero v h = absurd (cc h)
count_set (Some w ∷ slots) zero v h = omega (
  arith,
  sum_by-cons (λ o. cond (is_some o) 1 0) (Some w) slots,
  sum_by-cons (λ o. cond (is_some o) 1 0) (Some v) slots,
)
count_set (slot ∷ slots) (suc i) v h = omega (
  arith,
  sum_by-cons (λ o. cond (is_some o) 1 0) slot slots,
  sum_by-cons (λ o. cond (is_some o) 1 0) slot (set slots i (Some v)),
  count_set slots i v h,
)

-- a registration is changed in its row, and keeps its identifier and its call signal address
module _ {S : Type 0} (rows : Slab Registration) (by_identifier : HashMap (List ℕ) ℕ S)
    (by_address : HashMap Address ℕ S) (most : ℕ)
    (s : IsStored rows by_identifier by_address most) (i : ℕ) (old new : Registration)
    (there : get rows i ≡ Some old) (keeps : new.identifier ≡ old.identifier) where
  is_row : IsSome (get rows i)
  is_row = subst IsSome (sym there) refl

  same_count : slab_len (with_value rows i new) ≡ slab_len rows
  same_count = count_set rows.slots i new is_row

  change : Changed (get rows) (get (with_value rows i new)) i (Some new)
  change = indexes.Changed-slab rows (with_value rows i new) i (Some new)
      (Updates-with_value rows i new is_row)

  module _ (stays : new.call_signal ≡ old.call_signal) where
    pub IsStored-change : IsStored (with_value rows i new) by_identifier by_address most
    IsStored-change = record {
      identifiers = indexes.IsIndexOf-set identifier_of texts_decide (get rows)
          (get (with_value rows i new)) (hash.get (pointwise nat_eq) by_identifier) i old new
          s.identifiers there keeps change;
      addresses = indexes.IsIndexOf-set call_signal_of address_decides (get rows)
          (get (with_value rows i new)) (hash.get same_address by_address) i old new s.addresses
          there stays change;
      apart = s.apart;
      few = s.few;
      most_few = s.most_few;
      fits = omega (arith, same_count, s.fits);
    }

    live_change : live (with_value rows i new) by_identifier by_address
        ≡ fin.insert (live rows by_identifier by_address) new.identifier new
    live_change = places.one_map nat_list_cmp_total exact_bytes identifier_of (λ r. r)
        (get (with_value rows i new)) _ _
        (stored_map (with_value rows i new) by_identifier by_address most IsStored-change)
        (places.IsMapOf-put nat_list_cmp_total exact_bytes identifier_of (λ r. r) (get rows)
        (get (with_value rows i new)) i new (live rows by_identifier by_address)
        (stored_map rows by_identifier by_address most s) change
        (λ r e. ap identifier_of (same_some r old (sym e ∙ there)) ∙ sym keeps)
        (λ j r e is. (apart_ids rows by_identifier by_address most s).apart j i r old e there
        (is ∙ keeps)))

    pub order_change : (j : ℕ) (e : Entry) → slice_get by_identifier.entries j ≡ Some e
        → place_of e ≡ i → Changed (row_in (order rows by_identifier by_address))
        (row_in (order (with_value rows i new) by_identifier by_address)) j (Some new)
    order_change j e at is = order_changed rows (with_value rows i new) by_identifier.entries
        (leads rows by_identifier by_address most s)
        (leads (with_value rows i new) by_identifier by_address most IsStored-change) s.apart j e
        new at (subst (λ (k : ℕ). Changed (get rows) (get (with_value rows i new)) k (Some new))
        (sym is) change)

    same_room : {Z : Type 0} (deadlines next : DeadlineTable) (legs : Vec ℕ Z)
        (ends later : DeadlineTable) → next.room ≡ deadlines.room → later.room ≡ ends.room
        → room_of (with_value rows i new) by_identifier by_address next legs later
        ≡ room_of rows by_identifier by_address deadlines legs ends
    same_room deadlines next legs ends later same still k =
        min (min (rows.capacity - same_count k) (same k - length by_identifier.entries))
        (min (min (spare by_identifier) (spare by_address))
        (min (vec_capacity legs - length by_identifier.entries)
        (still k - length by_identifier.entries)))

-- a table by what is stored, and by its value
module _ {S : Type 0} (rows : Slab Registration) (by_identifier : HashMap (List ℕ) ℕ S)
    (by_address : HashMap Address ℕ S) {Z : Type 0} (deadlines : DeadlineTable) (legs : Vec ℕ Z)
    (ends : DeadlineTable) (times : Times) (most : ℕ)
    {start : ℕ} (s : IsStored rows by_identifier by_address most) (t : Registry)
    (view : registry_of rows by_identifier by_address deadlines legs ends times most start
    ≡ t) where
  abbrev order_here : List Registration
  order_here = order_of rows by_identifier.entries

  pub live_map : IsMapOf identifier_of (λ r. r) (get rows) t.live
  live_map = subst (λ (u : Registry). IsMapOf identifier_of (λ r. r) (get rows) u.live) view
      (stored_map rows by_identifier by_address most s)

  pub consistent : IsConsistent t.live
  consistent = subst (λ (u : Registry). IsConsistent u.live) view
      (IsSound-stored rows by_identifier by_address most s deadlines legs ends times
      start).consistent

  pub numbered : IsNumbered t
  numbered = subst IsNumbered view (record {
    all = refl;
    once = (are_rows rows by_identifier by_address most s).ids;
  })

  pub rows_apart : AreRows t.order
  rows_apart = subst (λ (u : Registry). AreRows u.order) view
      (are_rows rows by_identifier by_address most s)

  pub found_at : (id : List ℕ) (i : ℕ) → hash.get (pointwise nat_eq) by_identifier id ≡ Some i
      → get rows i ≡ fin.get t.live id
  found_at id i is = sym (get_at rows by_identifier by_address most s id i is)
      ∙ ap (λ u. fin.get u.live id) view

  pub not_found : (id : List ℕ) → hash.get (pointwise nat_eq) by_identifier id ≡ None
      → None ≡ fin.get t.live id
  not_found id is = sym (get_none rows by_identifier by_address most s id is)
      ∙ ap (λ u. fin.get u.live id) view

  pub found_by : (address : Address) (i : ℕ) → hash.get same_address by_address address ≡ Some i
      → get rows i ≡ at_address t.live address
  found_by address i is = sym (address_at rows by_identifier by_address most s address i is)
      ∙ ap (λ u. at_address u.live address) view

  pub not_found_by : (address : Address) → hash.get same_address by_address address ≡ None
      → None ≡ at_address t.live address
  not_found_by address is = sym (address_none rows by_identifier by_address most s address is)
      ∙ ap (λ u. at_address u.live address) view

  -- each endpoint that is registered has an entry in the index
  pub is_named : (id : List ℕ) → IsSome (fin.get t.live id)
      → IsSome (hash.get (pointwise nat_eq) by_identifier id)
  is_named id is = cases (hash.get (pointwise nat_eq) by_identifier id) refl where
    cases : (w : Option ℕ) → hash.get (pointwise nat_eq) by_identifier id ≡ w → IsSome w
    cases None none = absurd (cc (subst IsSome (sym (not_found id none)) is))
    cases (Some i) there = refl

  -- the registration to which an identifier leads
  pub registered : (id : List ℕ) (i : ℕ) → hash.get (pointwise nat_eq) by_identifier id ≡ Some i
      → (r : Registration) → get rows i ≡ Some r
      → (r.identifier ≡ id) × (fin.get t.live id ≡ Some r)
  registered id i is r there =
      let row = row_at rows by_identifier by_address most s id i is in (
        ap identifier_of (same_some r row.0 (sym there ∙ row.1)) ∙ row.2,
        sym (found_at id i is) ∙ there,
      )

  pub Updates-change : (id : List ℕ) (i : ℕ)
      → hash.get (pointwise nat_eq) by_identifier id ≡ Some i
      → (old : Registration) → get rows i ≡ Some old → (f : Registration → Registration)
      → (f old).identifier ≡ old.identifier → (f old).call_signal ≡ old.call_signal
      → (next later : DeadlineTable) → next.room ≡ deadlines.room → later.room ≡ ends.room
      → UpdatesOne t (registry_of (with_value rows i (f old)) by_identifier by_address next legs
      later times most start) (update t.live id f)
  Updates-change id i is old there f keeps stays next later same still =
      let has = registered id i is old there in
      let stored = IsStored-change rows by_identifier by_address most s i old (f old) there keeps
      stays in
      record {
        rows = live_change rows by_identifier by_address most s i old (f old) there keeps stays
            ∙ ((λ k. fin.insert (view k).live ((keeps ∙ has.0) k) (f old))
            ∙ sym (maps.update_there nat_list_cmp_total exact_bytes t.live id old f has.1));
        most = ap (λ u. u.most) view;
        room = same_room rows by_identifier by_address most s i old (f old) there keeps stays
            deadlines next legs ends later same still ∙ ap (λ u. u.room) view;
        sound = IsSound-stored (with_value rows i (f old)) by_identifier by_address most stored
            next legs later times start;
        legs = ap (λ u. u.legs) view;
        times = ap (λ u. u.times) view;
        next = ap (λ u. u.next) view;
      }

  -- if nobody has the identifier, nothing is changed
  pub Updates-same : (id : List ℕ) → hash.get (pointwise nat_eq) by_identifier id ≡ None
      → (f : Registration → Registration) → UpdatesOne t t (update t.live id f)
  Updates-same id is f = record {
    rows = ap (λ r. put_if t.live id (option_map f r)) (not_found id is);
    most = refl;
    room = refl;
    sound = subst IsSound view
        (IsSound-stored rows by_identifier by_address most s deadlines legs ends times start);
    legs = refl;
    times = refl;
    next = refl;
  }

  -- if nobody has the identifier, nobody goes
  pub Becomes-same : (id : List ℕ) → hash.get (pointwise nat_eq) by_identifier id ≡ None
      → Becomes t t (fin.remove t.live id)
  Becomes-same id is = record {
    rows = maps.remove_absent nat_list_cmp_total exact_bytes t.live id (sym (not_found id is));
    most = refl;
    room = omega arith;
    sound = subst IsSound view
        (IsSound-stored rows by_identifier by_address most s deadlines legs ends times start);
    times = refl;
    next = refl;
  }

  -- a registration goes
  pub Becomes-remove : (next : Slab Registration) (next_named : HashMap (List ℕ) ℕ S)
      (next_placed : HashMap Address ℕ S) (later : DeadlineTable) (after : Vec ℕ Z)
      (left : DeadlineTable) (i : ℕ) (r : Registration) (id : List ℕ) → r.identifier ≡ id
      → Updates rows next i None → get rows i ≡ Some r
      → IsStored next next_named next_placed most
      → room_of rows by_identifier by_address deadlines legs ends
      ≤ room_of next next_named next_placed later after left
      → Becomes t (registry_of next next_named next_placed later after left times most start)
      (fin.remove t.live id)
  Becomes-remove next next_named next_placed later after left i r id own u there stored more =
      record {
        rows = live_remove rows by_identifier by_address most s next next_named next_placed i r u
            there
            stored ∙ (λ k. fin.remove (view k).live (own k));
        most = ap (λ u. u.most) view;
        room = omega (arith, more, ap (λ u. u.room) view);
        sound = IsSound-stored next next_named next_placed most stored later after left times start;
        times = ap (λ u. u.times) view;
        next = ap (λ u. u.next) view;
      }

  -- only the numbers of legs are changed
  pub Counts-change : (after : Vec ℕ Z) (later : DeadlineTable) (m : LegCounts)
      → vec_capacity after ≡ vec_capacity legs → later.room ≡ ends.room
      → leg_counts_of by_identifier.entries after.items ≡ m
      → Counts t (registry_of rows by_identifier by_address deadlines after later times most
      start) m
  Counts-change after later m same still is = record {
    rows = ap (λ u. u.live) view;
    most = ap (λ u. u.most) view;
    room = omega (arith, same, still, ap (λ u. u.room) view);
    legs = is;
    times = ap (λ u. u.times) view;
    next = ap (λ u. u.next) view;
    sound = IsSound-stored rows by_identifier by_address most s deadlines after later times start;
  }

  -- the number of legs of an endpoint stands where its entry does
  pub legs_at : length legs.items ≡ length by_identifier.entries → (id : List ℕ) (place j : ℕ)
      → hash.get (pointwise nat_eq) by_identifier id ≡ Some place
      → IsSomeAnd (slice_get by_identifier.entries j) (λ e. e.1 ≡ place)
      → fin.get t.legs id ≡ slice_get legs.items j
  legs_at fits id place j is at =
      ap (λ u. fin.get u.legs id) (sym view)
      ∙ count_at by_identifier.entries legs.items s.apart fits j (id, place)
      (entry_at rows by_identifier by_address most s id place j is at)

  pub not_counted : (id : List ℕ) → hash.get (pointwise nat_eq) by_identifier id ≡ None
      → fin.get t.legs id ≡ None
  not_counted id none = cases (fin.get t.legs id) refl where
    cases : (w : Option ℕ) → fin.get t.legs id ≡ w → fin.get t.legs id ≡ None
    cases None is = is
    cases (Some n) is =
        let e = counted_key by_identifier.entries legs.items s.apart id n
        (ap (λ u. fin.get u.legs id) view ∙ is) in
        some_none (sym (ap (hash.get (pointwise nat_eq) by_identifier) (sym e.3)
        ∙ entry_named rows by_identifier by_address most s e.0 e.1 e.2) ∙ none)

  -- a registration is due where it stands in the order
  pub due_of : AreDue order_here deadlines.moments → (id : List ℕ) (r : Registration)
      → fin.get t.live id ≡ Some r
      → (j : ℕ) × (fin.get deadlines.moments j ≡ Some r.deadline)
  due_of due id r there =
      let row = live_row order_here (are_rows rows by_identifier by_address most s) id r
      (ap (λ u. fin.get u.live id) view ∙ there) in
      (row.0, due row.0 ∙ ap (option_map deadline_of) row.1)

-- a value of which something holds is there
pub is_there : (w : Option Registration) (Q : Registration → Type 0) → IsSomeAnd w Q → IsSome w
is_there None Q h = absurd h
is_there (Some r) Q h = refl

-- what holds of the value behind a reference that was found
pub copied_is : (w : Option (Bor Registration)) (r : Registration) (Q : Registration → Type 0)
    → option_copied w ≡ Some r → Q r → IfSome w (λ x. Q x.now)
copied_is None r Q e q = tt
copied_is (Some x) r Q e q = subst Q (sym (same_some x.now r e)) q

pub copied_some : (w : Option (Bor Registration)) (r : Registration) → option_copied w ≡ Some r
    → IsSome w
copied_some None r e = absurd (cc e)
copied_some (Some x) r e = refl

pub copied_due : (w : Option (Bor Registration)) (due now : ℕ)
    → option_map deadline_of (option_copied w) ≡ Some due → due ≤ now
    → IfSome w (λ x. x.now.deadline ≤ now)
copied_due None due now e le = tt
copied_due (Some x) due now e le = omega (arith, same_some x.now.deadline due e, le)
