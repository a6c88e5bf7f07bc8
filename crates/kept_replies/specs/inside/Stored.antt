-- How what is kept is stored.
use Rattle.std.specs.Prelude.{◌≡◌, ◌≢◌, ◌≤◌, ◌+◌, ℕ, Bool, true, false, List, Option, Some, None}
use Rattle.std.specs.Prelude.{[], ◌∷◌, ◌++◌, length, slice_get, nat_eq, is_some, IfSome}
use Rattle.std.specs.Prelude.{if◌then◌else◌}
use Rattle.std.specs.List.{filter_map}
use Rattle.std.specs.Cmp.Lexicographic.{pointwise}
use Rattle.std.specs.Map.{set_value}
use Rattle.std.specs.FinMap as map
use Rattle.indexmap.specs.IndexMap.{IndexMap, get, spare, IsUnique, Updates}
use Rattle.keyed.specs.Places.{AreApart, row_in}
use Rattle.kept_replies.specs.declared.table.TheConstants.Kept as kept_table
use Rattle.kept_replies.specs.Keys.{same_key}
use Rattle.kept_replies.specs.Kept.{AreEntries, AreBornApart, KeptReplies, kept_of, named_by}
use Rattle.kept_replies.specs.declared.key.KeptKey.{KeptKey}
use Rattle.kept_replies.specs.declared.entry.KeptEntry.{KeptEntry}

abbrev pub key_of : KeptKey × KeptEntry → KeptKey
key_of row = row.0

abbrev pub entry_of : KeptKey × KeptEntry → KeptEntry
entry_of row = row.1

-- this entry is kept for its datagram
abbrev pub IsIn : KeptReplies → KeptKey × KeptEntry → Type 0
IsIn kept row = map.get kept (key_of row) ≡ Some (entry_of row)

abbrev pub is_identifier : List ℕ → Option (List ℕ) → Bool
is_identifier id None = false
is_identifier id (Some other) = pointwise nat_eq other id

-- the identifiers that RegistrationConfirms among these rows tell
abbrev pub identifiers_of : List (KeptKey × KeptEntry) → List (List ℕ)
identifiers_of rows = filter_map (λ row. named_by row.1) rows

abbrev pub is_named_by : List ℕ → KeptEntry → Bool
is_named_by id entry = is_identifier id (named_by entry)

-- no two rows share a key or a birth, there are no more rows than there may be, and each has an
-- entry
pub record AreStored {S : Type 0} (rows : IndexMap KeptKey KeptEntry S) (most : ℕ) : Type 0 where
  pub each : AreEntries (kept_of rows.entries)
  pub births : AreBornApart (kept_of rows.entries)
  pub apart : AreApart key_of (row_in rows.entries)
  pub few : length rows.entries ≤ most
  pub most_few : most ≤ kept_table.MOST

-- the entry is put under this key, in place of what was there
pub record Puts {S : Type 0} (old new : IndexMap KeptKey KeptEntry S) (key : KeptKey)
    (entry : KeptEntry) : Type 0 where
  pub updates : Updates same_key old new key (Some entry)
  pub unique : IsUnique same_key new
  pub longer : length new.entries
      ≡ length old.entries + (if is_some (get same_key old key) then 0 else 1)
  pub room : spare old ≤ spare new + 1
  pub replaces : get same_key old key ≢ None → spare old ≤ spare new

-- the entry under this key is changed, if there is one, and no memory is taken
pub record Rewrites {S : Type 0} (change : KeptEntry → KeptEntry)
    (old new : IndexMap KeptKey KeptEntry S) (key : KeptKey) : Type 0 where
  pub updates : (entry : KeptEntry) → get same_key old key ≡ Some entry
      → Updates same_key old new key (Some (change entry))
  pub entries : (entry : KeptEntry) → get same_key old key ≡ Some entry
      → new.entries ≡ set_value (same_key key) old.entries (change entry)
  pub unique : IsUnique same_key new
  pub same_length : length new.entries ≡ length old.entries
  pub same_room : spare new ≡ spare old

-- the row is put after the others
abbrev pub Appends : List (KeptKey × KeptEntry) → List (KeptKey × KeptEntry) → KeptKey × KeptEntry
    → Type 0
Appends old new row = new ≡ old ++ row ∷ []

-- no row passes a test
abbrev pub NoRowPasses : (KeptEntry → Bool) → List (KeptKey × KeptEntry) → Type 0
NoRowPasses test rows =
    (i : ℕ) (row : KeptKey × KeptEntry) → slice_get rows i ≡ Some row → test row.1 ≡ false

-- a row with this birth passes it
pub record RowPasses (test : KeptEntry → Bool) (rows : List (KeptKey × KeptEntry)) (born : ℕ)
    : Type 0 where
  pub place : ℕ
  pub row : KeptKey × KeptEntry
  pub there : slice_get rows place ≡ Some row
  pub passes : test row.1 ≡ true
  pub is_born : row.1.born ≡ born

-- the row is removed, if there is one, and no memory is taken
pub record Removes {S : Type 0} (old new : IndexMap KeptKey KeptEntry S)
    (row : Option (KeptKey × KeptEntry)) : Type 0 where
  pub updates : IfSome row (λ row. Updates same_key old new row.0 None)
  pub unchanged : row ≡ None → new.entries ≡ old.entries
  pub unique : IfSome row (λ row. IsUnique same_key new)
  pub shorter : length new.entries + (if is_some row then 1 else 0) ≡ length old.entries
  pub room : spare old ≤ spare new
