-- What the gatekeeper keeps of its replies, as a finite map from datagrams. An endpoint that gets
-- no reply sends its request again, as the same datagram, and then gets the same reply (H.225.0,
-- RAS timers and request in progress).
use Rattle.std.specs.Prelude.{◌≡◌, ◌≤◌, ◌+◌, ◌-◌, ℕ, Bool, false, List, Option, Some, None, nat_le}
use Rattle.std.specs.Prelude.{IsTrue}
use Rattle.std.specs.Option.{IsSomeAnd}
use Rattle.std.specs.Ordering.{nat_cmp}
use Rattle.std.specs.FinMap.{FinMap, get, remove, len, entries, from_entries}
use Rattle.keyed.specs.Places as places
use Rattle.ras_module.specs.declared.reply.Reply.{Reply}
use Rattle.ras_module.specs.declared.request.Request.{Request}
use Rattle.kept_replies.specs.declared.table.TheConstants.Kept as kept_table
use Rattle.kept_replies.specs.Keys.{key_cmp}
use Rattle.kept_replies.specs.Told.{identifier_in}
use Rattle.kept_replies.specs.declared.key.KeptKey.{KeptKey}
use Rattle.kept_replies.specs.declared.entry.KeptEntry.{KeptEntry}
use Rattle.kept_replies.specs.declared.entry.KeptState.{KeptState}
use Rattle.kept_replies.specs.declared.entry.KeptState.TheVariants.{Done, Pending}

-- what is kept of the reply to each datagram
abbrev pub KeptReplies : Type 0
KeptReplies = FinMap key_cmp KeptEntry

-- what is kept, the most that there may be, and how many more can be kept so that no memory is
-- taken for them
pub record KeptTable : Type 0 where
  pub kept : KeptReplies
  pub most : ℕ
  pub room : ℕ

abbrev pub kept_of : List (KeptKey × KeptEntry) → KeptReplies
kept_of rows = from_entries rows

abbrev pub birth_of : KeptKey × KeptEntry → ℕ
birth_of row = row.1.born

abbrev pub itself : KeptKey × KeptEntry → KeptKey × KeptEntry
itself row = row

-- each datagram with what is kept for it, by birth
abbrev pub Births : Type 0
Births = FinMap nat_cmp (KeptKey × KeptEntry)

abbrev pub births_of : List (KeptKey × KeptEntry) → Births
births_of rows = places.map_of birth_of itself rows

abbrev pub births : KeptReplies → Births
births kept = births_of (entries kept)

-- the list has all that is kept, by rising birth
abbrev pub IsListOf : KeptReplies → List (KeptKey × KeptEntry) → Type 0
IsListOf kept list = places.entries_of birth_of itself list ≡ entries (births kept)

-- the reply is kept until this moment
abbrev pub done : ℕ → Reply → ℕ → KeptEntry
done born reply until = record { born = born; state = Done reply until }

-- the request is served again at this moment, and at most this many times in all, that one included
abbrev pub pending : ℕ → Request → Reply → ℕ → ℕ → KeptEntry
pending born request reply retry left =
    record { born = born; state = Pending request reply retry left }

-- the reply that is sent again, be it the last one or a requestInProgress
abbrev pub reply_in : KeptState → Reply
reply_in (Done reply until) = reply
reply_in (Pending request reply retry left) = reply

-- the moment until which the reply is kept has come
abbrev pub is_over_in : ℕ → KeptState → Bool
is_over_in now (Done reply until) = nat_le until now
is_over_in now (Pending request reply retry left) = false

abbrev pub is_over : ℕ → KeptEntry → Bool
is_over now entry = is_over_in now entry.state

-- the moment at which the request is served again has come
abbrev pub is_retry_in : ℕ → KeptState → Bool
is_retry_in now (Done reply until) = false
is_retry_in now (Pending request reply retry left) = nat_le retry now

abbrev pub is_retry : ℕ → KeptEntry → Bool
is_retry now entry = is_retry_in now entry.state

-- the entry with this birth passes a test
abbrev pub Passes : (KeptEntry → Bool) → KeptReplies → ℕ → Type 0
Passes test kept born = IsSomeAnd (get (births kept) born) (λ row. IsTrue (test row.1))

-- no entry passes it
abbrev pub NonePasses : (KeptEntry → Bool) → KeptReplies → Type 0
NonePasses test kept =
    (key : KeptKey) (entry : KeptEntry) → get kept key ≡ Some entry → test entry ≡ false

-- no further reply may be kept, and none of those that are kept is over
pub record IsBusy (t : KeptTable) (now : ℕ) : Type 0 where
  pub full : len t.kept ≡ t.most
  pub none_over : NonePasses (is_over now) t.kept

abbrev pub named_by : KeptEntry → Option (List ℕ)
named_by entry = identifier_in (reply_in entry.state)

-- a RegistrationConfirm that is kept tells this identifier
pub record IsNamed (kept : KeptReplies) (id : List ℕ) : Type 0 where
  pub key : KeptKey
  pub entry : KeptEntry
  pub there : get kept key ≡ Some entry
  pub named : named_by entry ≡ Some id

-- an entry for this datagram may have this birth: no entry for another datagram has it
abbrev pub IsFreeBirth : KeptReplies → KeptKey → ℕ → Type 0
IsFreeBirth kept key born =
    (other : KeptKey) (entry : KeptEntry) → get kept other ≡ Some entry → entry.born ≡ born
    → other ≡ key

-- its request was answered
abbrev pub finished : Reply → ℕ → KeptEntry → KeptEntry
finished reply until entry = record entry { state = Done reply until }

-- its request is served again later, and the times that are left are one fewer
abbrev pub postponed_in : ℕ → KeptState → KeptState
postponed_in moment (Done reply until) = Done reply until
postponed_in moment (Pending request reply retry left) = Pending request reply moment (left - 1)

abbrev pub postponed : ℕ → KeptEntry → KeptEntry
postponed moment entry = record entry { state = postponed_in moment entry.state }

-- how often the request may be served again
abbrev pub left_in : KeptState → ℕ
left_in (Done reply until) = 0
left_in (Pending request reply retry left) = left

-- what is kept without this row
abbrev pub without : KeptReplies → Option (KeptKey × KeptEntry) → KeptReplies
without kept None = kept
without kept (Some row) = remove kept row.0

-- what is kept without the entry with this birth
abbrev pub without_birth : KeptReplies → ℕ → KeptReplies
without_birth kept born = without kept (get (births kept) born)

-- after a change that takes no memory and no room, this is kept
pub record Becomes (old new : KeptTable) (kept : KeptReplies) : Type 0 where
  pub rows : new.kept ≡ kept
  pub most : new.most ≡ old.most
  pub room : old.room ≤ new.room

-- after one entry was added, or put in place of another, this is kept
pub record Adds (old new : KeptTable) (kept : KeptReplies) : Type 0 where
  pub rows : new.kept ≡ kept
  pub most : new.most ≡ old.most
  pub room : old.room ≤ new.room + 1

-- a request that waits is served again at least once
abbrev pub IsState : KeptState → Type 0
IsState (Done reply until) = Unit {0}
IsState (Pending request reply retry left) = 1 ≤ left

abbrev pub IsEntry : KeptEntry → Type 0
IsEntry entry = IsState entry.state

abbrev pub AreEntries : KeptReplies → Type 0
AreEntries kept =
    (key : KeptKey) (entry : KeptEntry) → get kept key ≡ Some entry → IsEntry entry

-- no two entries share a birth
abbrev pub AreBornApart : KeptReplies → Type 0
AreBornApart kept =
    (key other : KeptKey) (entry last : KeptEntry) → get kept key ≡ Some entry
    → get kept other ≡ Some last → entry.born ≡ last.born → key ≡ other

-- what holds of every table
pub record IsConsistent (t : KeptTable) : Type 0 where
  pub each : AreEntries t.kept
  pub births : AreBornApart t.kept
  pub few : len t.kept ≤ t.most
  pub most : t.most ≤ kept_table.MOST
