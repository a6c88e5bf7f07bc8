-- Rows with their moments: what a change of one row does to both.
use Rattle.std.proofs.Common.{◌≡◌, ◌≢◌, ℕ, ◌+◌, ◌-◌, ◌≤◌, ◌<◌, true, false, List, [], ◌∷◌, ◌++◌}
use Rattle.std.proofs.Common.{length, refl, sym, ◌∙◌, ap, subst, Some, None, Option, arith}
use Rattle.std.specs.Prelude.{slice_get, swap_remove, position, min, is_some, if◌then◌else◌}
use Rattle.std.specs.FinMap as fin
use Rattle.std.specs.HashMap as hash
use Rattle.std.specs.Map.{keys_of}
use Rattle.indexmap.specs.IndexMap.{IndexMap, spare}
use Rattle.keyed.specs.Maps.{Changed}
use Rattle.keyed.specs.Places.{row_in}
use Rattle.keyed.proofs.Rows.{Changed-push}
use Rattle.std.proofs.lemmas.Option.{slice_get_within}
use Rattle.kept_replies.specs.Keys.{same_key}
use Rattle.kept_replies.specs.inside.Due.{DueTable, AreTimed, AreDueAt, Writes, TakesOut, moved}
use Rattle.kept_replies.specs.inside.Due.{end_of, retry_of, end_in, retry_in}
use Rattle.kept_replies.specs.inside.Rows.{rows_seen, AreRows}
use Rattle.kept_replies.specs.inside.Stored.{Appends, Puts, Rewrites, Removes}
use Rattle.kept_replies.specs.declared.entry.KeptEntry.{KeptEntry}
use Rattle.kept_replies.specs.declared.key.KeptKey.{KeptKey}
use Rattle.kept_replies.proofs.Timed.{AreDueAt-empty, AreDueAt-changed, AreDueAt-moved}
use Rattle.kept_replies.proofs.Timed.{Changed-written}
use Rattle.kept_replies.proofs.Timed.{Moved, Moved-rows, Moved-moments}

abbrev Row : Type 0
Row = KeptKey × KeptEntry

abbrev pub Seen : Type 0
Seen = IndexMap KeptKey KeptEntry (Unit {0})

-- what a search by key found is there; if it found none, there is none
pub there_is : {A : Type 0} (w : Option A) → true ≡ is_some w → (a : A) × (w ≡ Some a)
there_is None h = absurd (cc h)
there_is (Some a) h = (a, refl)

pub there_is_none : {A : Type 0} (w : Option A) → false ≡ is_some w → w ≡ None
there_is_none None h = refl
there_is_none (Some a) h = absurd (cc h)

pub AreRows-empty : {S : Type 0} (rows : IndexMap KeptKey KeptEntry S) (due : DueTable)
    → rows.entries ≡ [] → due.ends ≡ fin.empty → due.retries ≡ fin.empty → AreRows rows due
AreRows-empty rows due none ends retries = record {
  timed = subst (λ (es : List Row). AreTimed es due) (sym none) (record {
    ends = AreDueAt-empty end_of due.ends ends;
    retries = AreDueAt-empty retry_of due.retries retries;
  });
  fit = omega (arith, ap length none);
}

-- the same rows with the same moments
pub AreRows-same : {S : Type 0} (old new : IndexMap KeptKey KeptEntry S) (before after : DueTable)
    → AreRows old before → new.entries ≡ old.entries → after ≡ before → AreRows new after
AreRows-same old new before after h rows due =
    subst (λ (d : DueTable). AreRows new d) (sym due) (record {
      timed = subst (λ (es : List Row). AreTimed es before) (sym rows) h.timed;
      fit = omega (arith, ap length rows, h.fit);
    })

-- there is a place for one more row
pub one_fits : (w : Option KeptEntry) (n m r : ℕ) → n ≡ m + (if is_some w then 0 else 1) → m < r
    → n ≤ r
one_fits None n m r is fits = omega (arith, is, fits)
one_fits (Some entry) n m r is fits = omega (arith, is, fits)

module _ {S : Type 0} (old new : IndexMap KeptKey KeptEntry S) (before after : DueTable)
    (h : AreRows old before) where
  -- one row is written, with its moments
  pub AreRows-changed : (place : ℕ) (row : Row)
      → Changed (row_in old.entries) (row_in new.entries) place (Some row)
      → Writes before after place (end_of row) (retry_of row) → length new.entries ≤ before.room
      → AreRows new after
  AreRows-changed place row c w fits = record {
    timed = record {
      ends = AreDueAt-changed end_of old.entries new.entries before.ends after.ends place row
          h.timed.ends c w.ends;
      retries = AreDueAt-changed retry_of old.entries new.entries before.retries after.retries place
          row h.timed.retries c w.retries;
    };
    fit = omega (arith, fits, w.room);
  }

  pub AreRows-rewritten : (change : KeptEntry → KeptEntry) (key : KeptKey) (place : ℕ)
      → Rewrites change old new key → Some place ≡ position (same_key key) (keys_of old.entries)
      → (was : KeptEntry) → hash.get same_key old key ≡ Some was
      → Writes before after place (end_in (change was).state) (retry_in (change was).state)
      → AreRows new after
  AreRows-rewritten change key place r at was there w =
      let c = Changed-written (same_key key) (change was) old.entries place (sym at) in
      AreRows-changed place (c.0, change was)
      (subst (λ (es : List Row). Changed (row_in old.entries) (row_in es) place
      (Some (c.0, change was))) (sym (r.entries was there)) c.1) w
      (omega (arith, r.same_length, h.fit))

  pub AreRows-appended : (row : Row) → Appends old.entries new.entries row
      → (place : ℕ) → place ≡ length old.entries
      → Writes before after place (end_of row) (retry_of row)
      → length new.entries ≤ before.room → AreRows new after
  AreRows-appended row is place last w fits =
      AreRows-changed place row
      (subst (λ (es : List Row). Changed (row_in old.entries) (row_in es) place (Some row)) (sym is)
      (subst (λ (n : ℕ). Changed (row_in old.entries) (row_in (old.entries ++ row ∷ [])) n
      (Some row)) (sym last) (Changed-push old.entries row))) w fits

  -- one row goes, and the last comes in its place
  pub AreRows-removed : (row : Row) (place last : ℕ) → Some row ≡ slice_get old.entries place
      → new.entries ≡ swap_remove old.entries place row → length new.entries ≡ last
      → length new.entries + 1 ≡ length old.entries → TakesOut before after place last
      → AreRows new after
  AreRows-removed row place last there is count shorter t =
      let rows = subst (λ (es : List Row). Moved (row_in old.entries) (row_in es) place last)
      (sym is) (Moved-rows old.entries place last row (omega (arith, count, shorter))
      (slice_get_within old.entries place row (sym there))) in
      record {
        timed = record {
          ends = subst (AreDueAt end_of new.entries) (sym t.ends)
              (AreDueAt-moved end_of old.entries new.entries before.ends
              (moved before.ends place last) place last h.timed.ends rows
              (Moved-moments before.ends place last));
          retries = subst (AreDueAt retry_of new.entries) (sym t.retries)
              (AreDueAt-moved retry_of old.entries new.entries before.retries
              (moved before.retries place last) place last h.timed.retries rows
              (Moved-moments before.retries place last));
        };
        fit = omega (arith, shorter, h.fit, t.room);
      }

-- where one more stands at most, one place at most goes
room_left : (w : Option KeptEntry) (a b m n r s : ℕ) → a ≤ b + 1
    → n ≡ m + (if is_some w then 0 else 1) → s ≡ r → min a (r - m) ≤ min b (s - n) + 1
room_left None a b m n r s room longer same = omega (arith, room, longer, same)
room_left (Some entry) a b m n r s room longer same = omega (arith, room, longer, same)

-- where another takes its place, none goes
room_kept : (w : Option KeptEntry) (a b m n r s : ℕ) → (w ≢ None → a ≤ b)
    → n ≡ m + (if is_some w then 0 else 1) → s ≡ r → w ≢ None → min a (r - m) ≤ min b (s - n)
room_kept None a b m n r s room longer same there = absurd (there refl)
room_kept (Some entry) a b m n r s room longer same there =
    omega (arith, room there, longer, same)

room_freed : (w : Option Row) (a b m n r s : ℕ) → a ≤ b
    → n + (if is_some w then 1 else 0) ≡ m → s ≡ r → min a (r - m) ≤ min b (s - n)
room_freed None a b m n r s room shorter same = omega (arith, room, shorter, same)
room_freed (Some row) a b m n r s room shorter same = omega (arith, room, shorter, same)

-- what a change of one row is, seen with the moments
module _ {S : Type 0} (old new : IndexMap KeptKey KeptEntry S) (before after : DueTable)
    (room : after.room ≡ before.room) where
  pub Puts-seen : (key : KeptKey) (entry : KeptEntry) → Puts old new key entry
      → Puts (rows_seen old before) (rows_seen new after) key entry
  Puts-seen key entry p = record {
    updates = p.updates;
    unique = p.unique;
    longer = p.longer;
    room = room_left (hash.get same_key old key) (spare old) (spare new) (length old.entries)
        (length new.entries) before.room after.room p.room p.longer room;
    replaces = room_kept (hash.get same_key old key) (spare old) (spare new) (length old.entries)
        (length new.entries) before.room after.room p.replaces p.longer room;
  }

  pub Rewrites-seen : (change : KeptEntry → KeptEntry) (key : KeptKey)
      → Rewrites change old new key
      → Rewrites change (rows_seen old before) (rows_seen new after) key
  Rewrites-seen change key r = record {
    updates = r.updates;
    entries = r.entries;
    unique = r.unique;
    same_length = r.same_length;
    same_room = λ i. min (r.same_room i) (room i - r.same_length i);
  }

  pub Removes-seen : (row : Option Row) → Removes old new row
      → Removes (rows_seen old before) (rows_seen new after) row
  Removes-seen row r = record {
    updates = r.updates;
    unchanged = r.unchanged;
    unique = r.unique;
    shorter = r.shorter;
    room = room_freed row (spare old) (spare new) (length old.entries) (length new.entries)
        before.room after.room r.room r.shorter room;
  }

-- an entry that is rewritten as another is put in place of it
pub Puts-rewritten : {S : Type 0} (old new : IndexMap KeptKey KeptEntry S) (key : KeptKey)
    (entry was : KeptEntry) → Rewrites (λ other. entry) old new key
    → hash.get same_key old key ≡ Some was → Puts old new key entry
Puts-rewritten old new key entry was r there = record {
  updates = r.updates was there;
  unique = r.unique;
  longer = r.same_length
      ∙ (omega arith
      ∙ ap (λ (w : Option KeptEntry). length old.entries + (if is_some w then 0 else 1))
      (sym there));
  room = omega (arith, r.same_room);
  replaces = λ some. omega (arith, r.same_room);
}

-- if there is no row, none goes
pub Removes-none : {S : Type 0} (rows : IndexMap KeptKey KeptEntry S) (place : ℕ)
    → slice_get rows.entries place ≡ None → Removes rows rows (slice_get rows.entries place)
Removes-none rows place none = subst (λ (w : Option Row). Removes rows rows w) (sym none) (record {
  updates = tt;
  unchanged = λ e. refl;
  unique = tt;
  shorter = omega arith;
  room = omega arith;
})
