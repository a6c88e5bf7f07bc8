-- What holds of a table that is empty, and of one after a registration was changed or taken out.
use Rattle.std.proofs.Common.{◌≡◌, ℕ, ◌<◌, ◌≤◌, ◌+◌, ◌-◌, List, [], length, nat_eq, refl, sym, ap}
use Rattle.std.proofs.Common.{◌∙◌}
use Rattle.std.proofs.Common.{subst, Some, arith, get_or, swap_remove}
use Rattle.std.specs.Prelude.{Option, None, slice_get, Result, Ok, Err, OnOk, Vec, vec_len}
use Rattle.std.proofs.Math.ListN.{set}
use Rattle.std.proofs.lemmas.List.{length-set}
use Rattle.std.specs.Option.{IsSomeAnd}
use Rattle.std.specs.Cmp.Lexicographic.{pointwise}
use Rattle.std.specs.FinMap as fin
use Rattle.std.specs.HashMap as hash
use Rattle.std.specs.HashMap.{HashMap}
use Rattle.std.proofs.lemmas.Option.{slice_get_read, slice_get_within}
use Rattle.slab.specs.Slab.{Slab, get, slab_len, with_value, Updates}
use Rattle.deadlines.specs.Deadlines.{DeadlineTable, renamed}
use Rattle.keyed.specs.Maps.{Changed}
use Rattle.keyed.specs.Places.{row_in}
use Rattle.keyed.proofs.Decide.{same_some}
use Rattle.keyed.proofs.Entries as entries
use Rattle.keyed.proofs.Rows.{Changed-set}
use Rattle.ras_module.specs.Same.{texts_decide}
use Rattle.ras_module.specs.declared.address.Address.{Address}
use Rattle.ras_module.specs.Addresses.{same_address}
use Rattle.registrations.specs.declared.table.TheConstants.Registrations as registrations_table
use Rattle.registrations.specs.declared.registration.Registration.{Registration}
use Rattle.registrations.specs.declared.times.Times.{Times}
use Rattle.registrations.specs.Registry.{identifier_of}
use Rattle.registrations.specs.Silence.{end_of}
use Rattle.registrations.specs.inside.Stored.{Entry, IsTable, leg_counts_of, order_of}
use Rattle.registrations.proofs.Counting.{counts_remove}
use Rattle.registrations.proofs.Due.{AreDue-empty, AreDue-kept, AreDue-remove, AreDue-set}
use Rattle.registrations.proofs.Ends.{AreEnds-empty, AreEnds-kept, AreEnds-remove, AreEnds-set}
use Rattle.registrations.proofs.Order.{IsSwapped-order, order_at}
use Rattle.registrations.proofs.Stored.{IsStored-change, IsStored-empty, IsStored-remove}
use Rattle.registrations.proofs.Stored.{entry_at, leads, order_change, row_at}
use Rattle.registrations.proofs.Swapped.{IsSwapped, IsSwapped-swap_remove}

pub IsTable-empty : {S Z : Type 0} (rows : Slab Registration)
    (by_identifier : HashMap (List ℕ) ℕ S) (by_address : HashMap Address ℕ S)
    (deadlines : DeadlineTable) (legs : Vec ℕ Z) (ends : DeadlineTable) (times : Times) (most : ℕ)
    → rows.slots ≡ [] → by_identifier.entries ≡ [] → by_address.entries ≡ []
    → deadlines.moments ≡ fin.empty → legs.items ≡ [] → ends.moments ≡ fin.empty
    → most ≤ registrations_table.MOST
    → IsTable rows by_identifier by_address deadlines legs ends times most
IsTable-empty rows by_identifier by_address deadlines legs ends times most slots ids addresses is
    counts none few = record {
      stored = IsStored-empty rows by_identifier by_address most slots ids addresses few;
      places = record {
        reach = omega (arith, ap length ids);
        counted = omega (arith, ap length ids, ap length counts);
        ends_reach = omega (arith, ap length ids);
      };
      due = AreDue-empty (order_of rows by_identifier.entries) deadlines.moments
          (ap (order_of rows) ids) is;
      silences = AreEnds-empty times (order_of rows by_identifier.entries) legs.items ends.moments
          (ap (order_of rows) ids) none;
    }

module _ {S Z : Type 0} (rows : Slab Registration) (by_identifier : HashMap (List ℕ) ℕ S)
    (by_address : HashMap Address ℕ S) (deadlines : DeadlineTable) (legs : Vec ℕ Z)
    (ends : DeadlineTable) (times : Times) (most : ℕ)
    (t : IsTable rows by_identifier by_address deadlines legs ends times most) where
  -- an entry has a place in each of the other parts
  pub entry_place : (j : ℕ) (Q : Entry → Type 0) → IsSomeAnd (slice_get by_identifier.entries j) Q
      → j < length by_identifier.entries
  entry_place j Q is = cases (slice_get by_identifier.entries j) refl is where
    cases : (w : Option Entry) → slice_get by_identifier.entries j ≡ w → IsSomeAnd w Q
        → j < length by_identifier.entries
    cases None there q = absurd q
    cases (Some e) there q = slice_get_within by_identifier.entries j e there

  pub entry_within : (j : ℕ) (Q : Entry → Type 0) → IsSomeAnd (slice_get by_identifier.entries j) Q
      → j < deadlines.room
  entry_within j Q is = omega (arith, entry_place j Q is, t.places.reach)

  pub legs_within : (j : ℕ) (Q : Entry → Type 0) → IsSomeAnd (slice_get by_identifier.entries j) Q
      → j < vec_len legs
  legs_within j Q is = omega (arith, entry_place j Q is, t.places.counted)

  pub legs_reach : (j : ℕ) (Q : Entry → Type 0) → IsSomeAnd (slice_get by_identifier.entries j) Q
      → j < length legs.items
  legs_reach j Q is = omega (arith, entry_place j Q is, t.places.counted)

  pub end_within : (j : ℕ) (Q : Entry → Type 0) → IsSomeAnd (slice_get by_identifier.entries j) Q
      → j < ends.room
  end_within j Q is = omega (arith, entry_place j Q is, t.places.ends_reach)

  module _ (id : List ℕ) (i : ℕ) (is : hash.get (pointwise nat_eq) by_identifier id ≡ Some i)
      (old new : Registration) (there : get rows i ≡ Some old)
      (keeps : new.identifier ≡ old.identifier) (stays : new.call_signal ≡ old.call_signal) (j : ℕ)
      (at : IsSomeAnd (slice_get by_identifier.entries j) (λ e. e.1 ≡ i)) where
    its_entry : slice_get by_identifier.entries j ≡ Some (id, i)
    its_entry = entry_at rows by_identifier by_address most t.stored id i j is at

    changed_row : Changed (row_in (order_of rows by_identifier.entries))
        (row_in (order_of (with_value rows i new) by_identifier.entries)) j (Some new)
    changed_row = order_change rows by_identifier by_address most t.stored i old new there keeps
        stays j (id, i) its_entry refl

    old_row : slice_get (order_of rows by_identifier.entries) j ≡ Some old
    old_row = order_at rows by_identifier.entries (leads rows by_identifier by_address most
        t.stored) j (id, i) its_entry ∙ there

    -- the silence of a row ends at another moment, and its deadline stays
    pub IsTable-heard : new.deadline ≡ old.deadline → (n : ℕ) → n ≡ get_or legs.items j n
        → (later : DeadlineTable) (end : Option ℕ) → end ≡ end_of times n new
        → Changed (fin.get ends.moments) (fin.get later.moments) j end → later.room ≡ ends.room
        → IsTable (with_value rows i new) by_identifier by_address deadlines legs later times most
    IsTable-heard same n count later end is moments room = record {
      stored = IsStored-change rows by_identifier by_address most t.stored i old new there keeps
          stays;
      places = record {
        reach = t.places.reach;
        counted = t.places.counted;
        ends_reach = omega (arith, t.places.ends_reach, room);
      };
      due = AreDue-kept (order_of rows by_identifier.entries)
          (order_of (with_value rows i new) by_identifier.entries) deadlines.moments
          deadlines.moments t.due j old new old_row same changed_row refl;
      silences = AreEnds-set times (order_of rows by_identifier.entries)
          (order_of (with_value rows i new) by_identifier.entries) legs.items legs.items
          ends.moments later.moments t.silences j new n changed_row
          (record {
            here = slice_get_read legs.items (length legs.items) j n refl (legs_reach j _ at) count;
            others = λ k differ. refl;
          })
          (subst (λ (w : Option ℕ). Changed (fin.get ends.moments) (fin.get later.moments) j w) is
          moments);
    }

    -- a row has another deadline, and its silence ends as before
    pub IsTable-set : (next : DeadlineTable)
        → next.moments ≡ fin.insert deadlines.moments j new.deadline
        → next.room ≡ deadlines.room → ((n : ℕ) → end_of times n new ≡ end_of times n old)
        → IsTable (with_value rows i new) by_identifier by_address next legs ends times most
    IsTable-set next moments room same = record {
      stored = IsStored-change rows by_identifier by_address most t.stored i old new there keeps
          stays;
      places = record {
        reach = omega (arith, t.places.reach, room);
        counted = t.places.counted;
        ends_reach = t.places.ends_reach;
      };
      due = AreDue-set (order_of rows by_identifier.entries)
          (order_of (with_value rows i new) by_identifier.entries) deadlines.moments
          next.moments t.due j new changed_row moments;
      silences = AreEnds-kept times (order_of rows by_identifier.entries)
          (order_of (with_value rows i new) by_identifier.entries) legs.items ends.moments
          t.silences j
          old new old_row same changed_row;
    }

  -- an endpoint has another number of legs
  pub IsTable-counted : (j : ℕ) (r : Registration) (n : ℕ)
      → slice_get (order_of rows by_identifier.entries) j ≡ Some r → j < length legs.items
      → (after : Vec ℕ Z) → after.items ≡ set legs.items j n → (later : DeadlineTable)
      (end : Option ℕ) → end ≡ end_of times n r
      → Changed (fin.get ends.moments) (fin.get later.moments) j end → later.room ≡ ends.room
      → IsTable rows by_identifier by_address deadlines after later times most
  IsTable-counted j r n there within after counts later end is moments room = record {
    stored = t.stored;
    places = record {
      reach = t.places.reach;
      counted = ap length counts ∙ (length-set legs.items j n ∙ t.places.counted);
      ends_reach = omega (arith, t.places.ends_reach, room);
    };
    due = t.due;
    silences = AreEnds-set times (order_of rows by_identifier.entries)
        (order_of rows by_identifier.entries) legs.items after.items ends.moments later.moments
        t.silences j r n (record { here = there; others = λ k differ. refl })
        (subst (λ (l : List ℕ). Changed (row_in legs.items) (row_in l) j (Some n)) (sym counts)
        (Changed-set legs.items j n within))
        (subst (λ (w : Option ℕ). Changed (fin.get ends.moments) (fin.get later.moments) j w) is
        moments);
  }

  -- a registration is taken out
  module _ (next : Slab Registration) (next_named : HashMap (List ℕ) ℕ S)
      (next_placed : HashMap Address ℕ S) (later : DeadlineTable) (after : Vec ℕ Z)
      (left : DeadlineTable) (id : List ℕ) (i j : ℕ)
      (r : Registration) (is : hash.get (pointwise nat_eq) by_identifier id ≡ Some i)
      (at : IsSomeAnd (slice_get by_identifier.entries j) (λ e. e.1 ≡ i))
      (listed : next_named.entries ≡ swap_remove by_identifier.entries j (id, i))
      (fewer : length next_named.entries + 1 ≡ length by_identifier.entries) (d : ℕ)
      (counts : after.items ≡ swap_remove legs.items j d) where
    gone : slice_get by_identifier.entries j ≡ Some (id, i)
    gone = entry_at rows by_identifier by_address most t.stored id i j is at

    swapped : IsSwapped by_identifier.entries next_named.entries j (length next_named.entries)
    swapped =
        let last : length by_identifier.entries - 1 ≡ length next_named.entries = omega
        (arith, fewer) in
        subst (λ (l : List Entry). IsSwapped by_identifier.entries l j (length next_named.entries))
        (sym listed)
        (subst (λ (n : ℕ). IsSwapped by_identifier.entries
        (swap_remove by_identifier.entries j (id, i)) j n) last
        (IsSwapped-swap_remove by_identifier.entries j (id, i)
        (slice_get_within by_identifier.entries j (id, i) gone)))

    swapped_legs : IsSwapped legs.items after.items j (length next_named.entries)
    swapped_legs =
        let last : length legs.items - 1 ≡ length next_named.entries = omega
        (arith, fewer, t.places.counted) in
        subst (λ (l : List ℕ). IsSwapped legs.items l j (length next_named.entries)) (sym counts)
        (subst (λ (n : ℕ). IsSwapped legs.items (swap_remove legs.items j d) j n) last
        (IsSwapped-swap_remove legs.items j d
        (omega (arith, slice_get_within by_identifier.entries j (id, i) gone, t.places.counted))))

    pub IsTable-remove : Updates rows next i None → get rows i ≡ Some r
        → hash.Updates (pointwise nat_eq) by_identifier next_named id None
        → hash.Updates same_address by_address next_placed r.call_signal None
        → hash.IsUnique (pointwise nat_eq) next_named
        → slab_len next ≤ next.capacity
        → length after.items + 1 ≡ length legs.items
        → later.moments
        ≡ renamed (fin.remove deadlines.moments j) (length next_named.entries) j
        → later.room ≡ deadlines.room
        → left.moments ≡ renamed (fin.remove ends.moments j) (length next_named.entries) j
        → left.room ≡ ends.room
        → IsTable next next_named next_placed later after left times most
    IsTable-remove u there ud ua unique fits one moments room ending still =
        let own = row_at rows by_identifier by_address most t.stored id i is in
        let its : r.identifier ≡ id = ap identifier_of (same_some r own.0 (sym there ∙ own.1))
        ∙ own.2 in
        let stored = IsStored-remove rows by_identifier by_address most t.stored next next_named
        next_placed i r u there
        (subst (λ (k : List ℕ). hash.Updates (pointwise nat_eq) by_identifier next_named k None)
        (sym its) ud) ua unique (omega (arith, fewer)) fits in
        let order = IsSwapped-order rows next by_identifier.entries next_named.entries
        (leads rows by_identifier by_address most t.stored)
        (leads next next_named next_placed most stored) i u j (length next_named.entries)
        swapped in
        record {
          stored = stored;
          places = record {
            reach = omega (arith, t.places.reach, fewer, room);
            counted = omega (arith, t.places.counted, fewer, one);
            ends_reach = omega (arith, t.places.ends_reach, fewer, still);
          };
          due = AreDue-remove (order_of rows by_identifier.entries)
              (order_of next next_named.entries) deadlines.moments later.moments t.due j
              (length next_named.entries) order moments;
          silences = AreEnds-remove times (order_of rows by_identifier.entries)
              (order_of next next_named.entries) legs.items after.items ends.moments left.moments
              t.silences j (length next_named.entries) order swapped_legs ending;
        }

    -- and the number of its endpoint's legs goes with it
    pub legs_removed : hash.IsUnique (pointwise nat_eq) next_named
        → leg_counts_of next_named.entries after.items
        ≡ fin.remove (leg_counts_of by_identifier.entries legs.items) id
    legs_removed unique = counts_remove by_identifier.entries legs.items t.stored.apart
        t.places.counted j (id, i) gone next_named.entries after.items (length next_named.entries)
        (entries.AreApart-entries texts_decide next_named.entries unique) swapped swapped_legs

-- what follows if a call succeeded
pub on_ok : {A E : Type 0} (result : Result A E) (P Q : Type 0) → OnOk result P → (P → Q)
    → OnOk result Q
on_ok (Ok a) P Q h f = f h
on_ok (Err e) P Q h f = tt
