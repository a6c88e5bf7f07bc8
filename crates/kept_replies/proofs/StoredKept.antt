-- What a change of one entry does to what is kept, and to how it is stored.
use Rattle.std.proofs.Common.{◌≡◌, ℕ, ◌+◌, ◌≤◌, ◌<◌, List, length, refl, sym, ◌∙◌, ap, subst, Some}
use Rattle.std.proofs.Common.{None, Option, arith}
use Rattle.std.specs.Prelude.{is_some, if◌then◌else◌, IsSome}
use Rattle.std.specs.Option.{IsSomeAnd}
use Rattle.std.specs.FinMap as fin
use Rattle.std.specs.HashMap as hash
use Rattle.indexmap.specs.IndexMap.{IndexMap, spare}
use Rattle.keyed.specs.Maps.{update}
use Rattle.keyed.specs.Places.{AreApart, row_in}
use Rattle.keyed.proofs.Decide.{some_none, same_some}
use Rattle.keyed.proofs.Entries as entries
use Rattle.keyed.proofs.Listed.{IsMapOf-pairs}
use Rattle.keyed.proofs.Maps as maps
use Rattle.keyed.proofs.Places.{IsMapOf}
use Rattle.kept_replies.specs.declared.table.TheConstants.Kept as kept_table
use Rattle.kept_replies.specs.Keys.{same_key}
use Rattle.kept_replies.specs.Kept.{KeptReplies, KeptTable, AreEntries, AreBornApart, IsEntry}
use Rattle.kept_replies.specs.Kept.{IsFreeBirth, IsConsistent, Becomes, Adds, kept_of, without}
use Rattle.kept_replies.specs.Kept.{left_in, postponed, postponed_in, IsState}
use Rattle.kept_replies.specs.inside.Stored.{AreStored, Puts, Rewrites, Removes, key_of}
use Rattle.kept_replies.specs.declared.entry.KeptEntry.{KeptEntry}
use Rattle.kept_replies.specs.declared.entry.KeptState.{KeptState}
use Rattle.kept_replies.specs.declared.entry.KeptState.TheVariants.{Done, Pending}
use Rattle.kept_replies.specs.declared.key.KeptKey.{KeptKey}
use Rattle.kept_replies.proofs.KeyOrder.{key_cmp_total, key_cmp-IsAntisymmetric, key_decides}

-- an entry that a map with one more has is that one, or was there
inserted : (m : KeptReplies) (key : KeptKey) (new : KeptEntry) (k : KeptKey) (e : KeptEntry)
    → (P : Type 0) → fin.get (fin.insert m key new) k ≡ Some e
    → (k ≡ key → new ≡ e → P) → (fin.get m k ≡ Some e → P) → P
inserted m key new k e P there is was =
    let change = maps.Changed-insert key_cmp_total key_cmp-IsAntisymmetric m key new in
    maps.by_key key_cmp_total key_cmp-IsAntisymmetric k key P
    (λ p. is p (same_some new e (sym change.here
    ∙ subst (λ (x : KeptKey). fin.get (fin.insert m key new) x ≡ Some e) p there)))
    (λ differ. was (sym (change.others k differ) ∙ there))

-- an entry that a map with one less has was there
left_over : (m : KeptReplies) (key : KeptKey) (k : KeptKey) (e : KeptEntry)
    → fin.get (fin.remove m key) k ≡ Some e → fin.get m k ≡ Some e
left_over m key k e there =
    let change = maps.Changed-remove key_cmp_total key_cmp-IsAntisymmetric m key in
    maps.by_key key_cmp_total key_cmp-IsAntisymmetric k key (fin.get m k ≡ Some e)
    (λ p. some_none (sym (subst (λ (x : KeptKey). fin.get (fin.remove m key) x ≡ Some e) p there)
    ∙ change.here))
    (λ differ. sym (change.others k differ) ∙ there)

AreEntries-insert : (m : KeptReplies) (key : KeptKey) (new : KeptEntry) → AreEntries m
    → IsEntry new → AreEntries (fin.insert m key new)
AreEntries-insert m key new each is k e there =
    inserted m key new k e (IsEntry e) there (λ p q. subst IsEntry q is) (λ was. each k e was)

AreEntries-remove : (m : KeptReplies) (key : KeptKey) → AreEntries m
    → AreEntries (fin.remove m key)
AreEntries-remove m key each k e there = each k e (left_over m key k e there)

AreBornApart-insert : (m : KeptReplies) (key : KeptKey) (new : KeptEntry) → AreBornApart m
    → IsFreeBirth m key new.born → AreBornApart (fin.insert m key new)
AreBornApart-insert m key new apart free k q e f a b born =
    inserted m key new k e (k ≡ q) a
    (λ p is. inserted m key new q f (k ≡ q) b (λ r also. p ∙ sym r)
    (λ was. p ∙ sym (free q f was (sym born ∙ sym (ap (λ x. x.born) is)))))
    (λ had. inserted m key new q f (k ≡ q) b
    (λ r also. free k e had (born ∙ sym (ap (λ x. x.born) also)) ∙ sym r)
    (λ was. apart k q e f had was born))

AreBornApart-remove : (m : KeptReplies) (key : KeptKey) → AreBornApart m
    → AreBornApart (fin.remove m key)
AreBornApart-remove m key apart k q e f a b born =
    apart k q e f (left_over m key k e a) (left_over m key q f b) born

abbrev pub rows_of : {S : Type 0} → IndexMap KeptKey KeptEntry S → KeptReplies
rows_of rows = kept_of rows.entries

pub get_row : {S : Type 0} (rows : IndexMap KeptKey KeptEntry S) (key : KeptKey)
    → hash.get same_key rows key ≡ fin.get (rows_of rows) key
get_row rows key =
    sym (entries.get_entries key_decides key_cmp_total key_cmp-IsAntisymmetric rows.entries key)

pub AreStored-empty : {S : Type 0} (rows : IndexMap KeptKey KeptEntry S) (most : ℕ)
    → hash.IsEmpty rows → most ≤ kept_table.MOST → AreStored rows most
AreStored-empty rows most empty few =
    let none : rows_of rows ≡ fin.empty = ap kept_of empty in
    record {
      each = λ k e there.
          absurd (cc (sym there ∙ (ap (λ m. fin.get m k) none ∙ fin.get-empty _ k)));
      births = λ k q e f there also born.
          absurd (cc (sym there ∙ (ap (λ m. fin.get m k) none ∙ fin.get-empty _ k)));
      apart = subst (λ (es : List (KeptKey × KeptEntry)). AreApart key_of (row_in es)) (sym empty)
          (record { apart = λ i j r t p q e. some_none (sym p) });
      few = omega (arith, ap length empty);
      most_few = few;
    }

-- the same rows
pub AreStored-same : {S : Type 0} (old new : IndexMap KeptKey KeptEntry S) (most : ℕ)
    → AreStored old most → new.entries ≡ old.entries → AreStored new most
AreStored-same old new most s is = record {
  each = subst (λ (es : List (KeptKey × KeptEntry)). AreEntries (kept_of es)) (sym is) s.each;
  births = subst (λ (es : List (KeptKey × KeptEntry)). AreBornApart (kept_of es)) (sym is)
      s.births;
  apart = subst (λ (es : List (KeptKey × KeptEntry)). AreApart key_of (row_in es)) (sym is)
      s.apart;
  few = omega (arith, ap length is, s.few);
  most_few = s.most_few;
}

module _ {S : Type 0} (old new : IndexMap KeptKey KeptEntry S) (most : ℕ) (s : AreStored old most)
    (key : KeptKey) (unique : hash.IsUnique same_key new) where
  -- an entry is put under a key
  pub AreStored-put : (entry : KeptEntry) → hash.Updates same_key old new key (Some entry)
      → length new.entries ≤ most → IsEntry entry → IsFreeBirth (rows_of old) key entry.born
      → AreStored new most
  AreStored-put entry u few is free =
      let map_is = entries.entries_insert key_decides key_cmp_total key_cmp-IsAntisymmetric old new
      key entry u in
      record {
        each = subst AreEntries (sym map_is) (AreEntries-insert (rows_of old) key entry s.each is);
        births = subst AreBornApart (sym map_is)
            (AreBornApart-insert (rows_of old) key entry s.births free);
        apart = entries.AreApart-entries key_decides new.entries unique;
        few = few;
        most_few = s.most_few;
      }

  -- an entry goes
  pub AreStored-remove : hash.Updates same_key old new key None
      → length new.entries + 1 ≡ length old.entries → AreStored new most
  AreStored-remove u shorter =
      let map_is = entries.entries_remove key_decides key_cmp_total key_cmp-IsAntisymmetric old new
      key u in
      record {
        each = subst AreEntries (sym map_is) (AreEntries-remove (rows_of old) key s.each);
        births = subst AreBornApart (sym map_is) (AreBornApart-remove (rows_of old) key s.births);
        apart = entries.AreApart-entries key_decides new.entries unique;
        few = omega (arith, shorter, s.few);
        most_few = s.most_few;
      }

-- an entry may keep its birth
own_birth : (m : KeptReplies) (key : KeptKey) (entry : KeptEntry) → AreBornApart m
    → fin.get m key ≡ Some entry → IsFreeBirth m key entry.born
own_birth m key entry apart there other e is born = apart other key e entry is there born

-- the value of a table by what is stored
abbrev pub table_of : {S : Type 0} → IndexMap KeptKey KeptEntry S → ℕ → KeptTable
table_of rows most = record { kept = rows_of rows; most = most; room = spare rows }

pub len_stored : {S : Type 0} (rows : IndexMap KeptKey KeptEntry S) (most : ℕ) (t : KeptTable)
    → AreStored rows most → table_of rows most ≡ t → fin.len t.kept ≡ length rows.entries
len_stored rows most t s view =
    ap (λ u. fin.len u.kept) (sym view)
    ∙ entries.len_entries key_decides key_cmp_total key_cmp-IsAntisymmetric rows.entries s.apart

-- what is kept, as rows
pub IsMapOf-stored : {S : Type 0} (rows : IndexMap KeptKey KeptEntry S) (most : ℕ)
    (t : KeptTable) → AreStored rows most → table_of rows most ≡ t
    → IsMapOf entries.key_of entries.value_of (row_in rows.entries) t.kept
IsMapOf-stored rows most t s view =
    subst (λ (u : KeptTable). IsMapOf entries.key_of entries.value_of (row_in rows.entries) u.kept)
    view (IsMapOf-pairs key_cmp_total key_cmp-IsAntisymmetric rows.entries s.apart)

pub IsConsistent-stored : {S : Type 0} (rows : IndexMap KeptKey KeptEntry S) (most : ℕ)
    (t : KeptTable) → AreStored rows most → table_of rows most ≡ t → IsConsistent t
IsConsistent-stored rows most t s view = subst IsConsistent view (record {
  each = s.each;
  births = s.births;
  few = omega (arith, len_stored rows most (table_of rows most) s refl, s.few);
  most = s.most_few;
})

module _ {S : Type 0} (old new : IndexMap KeptKey KeptEntry S) (key : KeptKey) (most : ℕ)
    (t : KeptTable) (view : table_of old most ≡ t) where
  pub stored_entry : (entry : KeptEntry) → fin.get t.kept key ≡ Some entry
      → fin.get (rows_of old) key ≡ Some entry
  stored_entry entry is = ap (λ u. fin.get u.kept key) view ∙ is

  -- one entry is rewritten, and keeps its birth
  pub AreStored-rewrite : (change : KeptEntry → KeptEntry) → Rewrites change old new key
      → (entry : KeptEntry) → fin.get t.kept key ≡ Some entry → AreStored old most
      → (change entry).born ≡ entry.born → (IsEntry entry → IsEntry (change entry))
      → AreStored new most
  AreStored-rewrite change r entry is s born keeps =
      let there = stored_entry entry is in
      AreStored-put old new most s key r.unique (change entry)
      (r.updates entry (get_row old key ∙ there)) (omega (arith, r.same_length, s.few))
      (keeps (s.each key entry there))
      (subst (IsFreeBirth (rows_of old) key) (sym born)
      (own_birth (rows_of old) key entry s.births there))

  pub Becomes-rewrite : (change : KeptEntry → KeptEntry) → Rewrites change old new key
      → (entry : KeptEntry) → fin.get t.kept key ≡ Some entry
      → Becomes t (table_of new most) (update t.kept key change)
  Becomes-rewrite change r entry is =
      subst (Becomes t (table_of new most))
      (sym (maps.update_there key_cmp_total key_cmp-IsAntisymmetric t.kept key entry change is))
      (subst (λ (u : KeptTable). Becomes u (table_of new most)
      (fin.insert u.kept key (change entry))) view
      (record {
        rows = entries.entries_insert key_decides key_cmp_total key_cmp-IsAntisymmetric old new key
            (change entry) (r.updates entry (get_row old key ∙ stored_entry entry is));
        most = refl;
        room = omega (arith, r.same_room);
      }))

  -- one is put
  pub Adds-put : (entry : KeptEntry) → hash.Updates same_key old new key (Some entry)
      → spare old ≤ spare new + 1 → Adds t (table_of new most) (fin.insert t.kept key entry)
  Adds-put entry u room =
      subst (λ (v : KeptTable). Adds v (table_of new most) (fin.insert v.kept key entry)) view
      (record {
        rows = entries.entries_insert key_decides key_cmp_total key_cmp-IsAntisymmetric old new key
            entry u;
        most = refl;
        room = room;
      })

  -- one goes
  pub Becomes-remove : hash.Updates same_key old new key None → spare old ≤ spare new
      → Becomes t (table_of new most) (fin.remove t.kept key)
  Becomes-remove u room =
      subst (λ (v : KeptTable). Becomes v (table_of new most) (fin.remove v.kept key)) view
      (record {
        rows = entries.entries_remove key_decides key_cmp_total key_cmp-IsAntisymmetric old new key
            u;
        most = refl;
        room = room;
      })

-- what is kept has its row
pub not_there : {S : Type 0} (rows : IndexMap KeptKey KeptEntry S) (most : ℕ) (t : KeptTable)
    → AreStored rows most → table_of rows most ≡ t → (key : KeptKey) (entry : KeptEntry)
    → fin.get t.kept key ≡ Some entry → hash.get same_key rows key ≡ None → ⊥
not_there rows most t s view key entry is none =
    some_none (sym (ap (λ u. fin.get u.kept key) view ∙ is) ∙ (sym (get_row rows key) ∙ none))

-- if a new key finds a place, there are no more than there may be
few_put : (was : Option KeptEntry) (n m most : ℕ)
    → n ≡ m + (if is_some was then 0 else 1) → m ≤ most → (was ≡ None → m < most) → n ≤ most
few_put None n m most is few one = omega (arith, one refl, is)
few_put (Some entry) n m most is few one = omega (arith, is, few)

module _ {S : Type 0} (old new : IndexMap KeptKey KeptEntry S) (most : ℕ) (t : KeptTable)
    (s : AreStored old most) (view : table_of old most ≡ t) where
  -- one is put
  pub stored_get : (key : KeptKey) → hash.get same_key old key ≡ fin.get t.kept key
  stored_get key = get_row old key ∙ ap (λ u. fin.get u.kept key) view

  pub AreStored-write : (key : KeptKey) (entry : KeptEntry) → Puts old new key entry
      → (fin.get t.kept key ≡ None → fin.len t.kept < t.most) → IsFreeBirth t.kept key entry.born
      → IsEntry entry → AreStored new most
  AreStored-write key entry w few free is =
      AreStored-put old new most s key w.unique entry w.updates
      (few_put (hash.get same_key old key) (length new.entries) (length old.entries) most w.longer
      s.few (λ none. omega (
        arith,
        few (sym (stored_get key) ∙ none),
        len_stored old most t s view,
        ap (λ u. u.most) view,
      ))) is
      (subst (λ (u : KeptTable). IsFreeBirth u.kept key entry.born) (sym view) free)

  -- a row goes, if there is one
  pub AreStored-less : (row : Option (KeptKey × KeptEntry)) → Removes old new row
      → AreStored new most
  AreStored-less None r = AreStored-same old new most s (r.unchanged refl)
  AreStored-less (Some row) r =
      AreStored-remove old new most s row.0 r.unique r.updates r.shorter

  Becomes-less : (row : Option (KeptKey × KeptEntry)) → Removes old new row
      → Becomes t (table_of new most) (without t.kept row)
  Becomes-less None r =
      subst (λ (u : KeptTable). Becomes u (table_of new most) u.kept) view (record {
        rows = ap kept_of (r.unchanged refl);
        most = refl;
        room = r.room;
      })
  Becomes-less (Some row) r = Becomes-remove old new row.0 most t view r.updates r.room

  pub Becomes-found : (row found : Option (KeptKey × KeptEntry)) → row ≡ found
      → Removes old new row → Becomes t (table_of new most) (without t.kept found)
  Becomes-found row found is r =
      subst (λ (w : Option (KeptKey × KeptEntry)).
      Becomes t (table_of new most) (without t.kept w)) is (Becomes-less row r)

-- an entry that is there
pub some_entry : (w : Option KeptEntry) → IsSome w → (entry : KeptEntry) × (w ≡ Some entry)
some_entry None h = absurd (cc h)
some_entry (Some entry) h = (entry, refl)

pub passing_entry : (w : Option KeptEntry) (P : KeptEntry → Type 0) → IsSomeAnd w P
    → (entry : KeptEntry) × (w ≡ Some entry) × P entry
passing_entry None P h = absurd h
passing_entry (Some entry) P h = (entry, refl, h)

pub passing_stays : (v w : Option KeptEntry) (P : KeptEntry → Type 0) → v ≡ w → IsSomeAnd w P
    → IsSomeAnd v P
passing_stays v w P is h = subst (λ (x : Option KeptEntry). IsSomeAnd x P) (sym is) h

-- a request that waits once more is served again at least once
pub IsEntry-postponed : (moment : ℕ) (entry : KeptEntry) → 2 ≤ left_in entry.state
    → IsEntry (postponed moment entry)
IsEntry-postponed moment entry h = state entry.state h where
  state : (s : KeptState) → 2 ≤ left_in s → IsState (postponed_in moment s)
  state (Done reply until) h = tt
  state (Pending request reply retry left) h = omega (arith, h)
