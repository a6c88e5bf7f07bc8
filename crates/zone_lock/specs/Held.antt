-- What stands behind a lock.
use Rattle.std.specs.Prelude.{◌≡◌, ◌≢◌, ◌≤◌, ◌+◌, ◌*◌, ◌^◌, ◌++◌, ◌∷◌, ℕ, List, [], length, Option}
use Rattle.std.specs.Prelude.{None, Some, Bool, true, false, ◌&&◌, ◌||◌, is_some, nat_lt}
use Rattle.std.specs.Option.{ForSome}
use Rattle.admission.specs.Calls.{in_use}
use Rattle.pools.specs.Account.{Account}
use Rattle.pools.specs.declared.fault.ReplaceFault.{ReplaceFault}
use Rattle.zone_config.specs.Defaults.{default_parts}
use Rattle.zone_events.specs.declared.change.Change.{Change}
use Rattle.zone_events.specs.declared.outcome.Outcome.{Outcome}
use Rattle.ras_machine.specs.State.{State, opening}
use Rattle.ras_machine.specs.Machine.{most_steps}
use Rattle.ras_machine.specs.Soundness.{Sound}
use Rattle.ras_core.specs.Running.{Running}
use Rattle.ras_core.specs.Replacing.{IsOldPool, IsRefusalOrMemory}
use Rattle.ras_core.specs.Runs.{RunningChange}
use Rattle.books.specs.declared.book.Entry.{Entry}
use Rattle.books.specs.declared.book.Receipt.{Receipt}
use Rattle.books.specs.declared.totals.Totals.{Totals}
use Rattle.books.specs.Books.{BookRun}
use Rattle.books.specs.Chapters.{ChapterValue, FinishedValue}
use Rattle.books.specs.Totals.{changes_of, datagrams_of, lent_of, no_totals, totals_with}
use Rattle.books.specs.Totals.{turns_of}

-- a state of a zone without pools
abbrev pub idle_state : State
idle_state = opening (default_parts [] (record { ip = []; port = 0 }) []) []

-- The place of the book's first entry in the whole history, the totals of the entries before it,
-- the state in which the book begins, unless no copy of it is kept, whether steps are recorded, its
-- entries, and the zone as it runs.
pub record Held : Type 0 where
  pub first : ℕ
  pub carried : Totals
  pub base : Option State
  pub is_recorded : Bool
  pub entries : List Entry
  pub zone : Running

-- The bandwidth that is in use in the one state is that of the other, with what was lent in
-- between, but without what came back.
abbrev pub IsLedInUse : State → State → ℕ → ℕ → Type 0
IsLedInUse old new lent returned =
    in_use new.tables.calls + returned ≡ in_use old.tables.calls + lent

-- the totals after these entries, but for what came back in them
pub record AreCarriedOn (before : Totals) (entries : List Entry) (after : Totals) : Type 0 where
  pub datagrams : after.datagrams ≡ before.datagrams + datagrams_of entries
  pub turns : after.turns ≡ before.turns + turns_of entries
  pub lent : after.lent ≡ before.lent + lent_of entries
  pub changes : after.changes ≡ before.changes + changes_of entries

-- What holds whenever the lock is free. The steps before the book, kept or not, are a run from the
-- state in which the zone was locked to the one in which the book began: as many as the place of
-- its first entry says, with the totals that were carried. The book leads on from there to the
-- state of the zone; if a copy of the state in which it began is kept, it is that state, and steps
-- are recorded. If there was no step before the book, it began in the state in which the zone was
-- locked; otherwise what was in use where it began follows from the totals before it, and the
-- settings are the same.
pub record IsKept (opened : State) (h : Held) : Type 0 where
  pub past : List Entry
  pub began : State
  pub before : BookRun opened past began
  pub places : length past ≡ h.first
  pub totals : AreCarriedOn no_totals past h.carried
  pub base : ForSome h.base (λ base. base ≡ began)
  pub copied : ForSome h.base (λ base. h.is_recorded ≡ true)
  pub run : BookRun began h.entries h.zone.state
  pub first : h.carried.datagrams + h.carried.turns + h.carried.changes ≡ h.first
  pub opened_before : Sound opened
  pub opened_at : h.first ≡ 0 → (began ≡ opened) × (h.carried ≡ no_totals)
  pub settings : began.tables.config ≡ opened.tables.config
  pub carried : IsLedInUse opened began h.carried.lent h.carried.returned
  pub backed : in_use h.zone.state.tables.calls ≤ in_use began.tables.calls + lent_of h.entries
  pub sound : Sound h.zone.state
  pub few : h.first + length h.entries ≤ h.zone.state.steps

-- What holds of all that stands behind the lock: the units are those that were in use when the zone
-- was locked; the totals so far are those before the book with what its entries add, and each
-- ledger has the total of its kind; no step lends 2^64 units.
pub record IsInside (opened : State) (h : Held) (sums : Totals)
    (units all_datagrams all_turns all_lent all_changes : ℕ) : Type 0 where
  pub kept : IsKept opened h
  pub opened_units : units ≡ in_use opened.tables.calls
  pub so_far : sums ≡ totals_with h.carried h.entries 0
  pub datagrams : all_datagrams ≡ sums.datagrams
  pub turns : all_turns ≡ sums.turns
  pub lent : all_lent ≡ sums.lent
  pub changes : all_changes ≡ sums.changes
  pub few_lent : sums.lent ≤ 2 ^ 64 * (h.first + length h.entries)

-- an entry of a seat, by its number and by how many steps it made before
abbrev pub entry_by : ℕ → ℕ → Change → Outcome → Entry
entry_by seat call event outcome = record {
  seat = seat;
  call = call;
  event = event;
  outcome = outcome;
}

-- what the seat is told of it, with its place in the whole history
abbrev pub receipt_at : ℕ → Entry → Receipt
receipt_at place entry = record {
  seat = entry.seat;
  call = entry.call;
  place = place;
  event = entry.event;
  outcome = entry.outcome;
}

-- as many entries wait at most to be taken, if no copy is kept of the state in which they begin
abbrev pub most_waiting : ℕ
most_waiting = 65536

-- whether a step is recorded: steps are, and not too many entries wait to be taken
abbrev pub goes_on : Held → Bool
goes_on h = h.is_recorded && (is_some h.base || nat_lt (length h.entries) most_waiting)

-- The entry of a step stands behind the others of the book.
pub record IsRecorded (old : Held) (entry : Entry) (new : Held) : Type 0 where
  pub entries : new.entries ≡ old.entries ++ entry ∷ []
  pub first : new.first ≡ old.first
  pub carried : new.carried ≡ old.carried

-- The book has no entries, and begins behind the step. Its entry and those before it are in no
-- memory, but their totals are carried.
pub record IsUnrecorded (old : Held) (entry : Entry) (new : Held) : Type 0 where
  pub entries : new.entries ≡ []
  pub first : new.first ≡ old.first + length old.entries + 1
  pub carried : AreCarriedOn old.carried (old.entries ++ entry ∷ []) new.carried

-- A step was made whose entry this is. The whole history, kept or not, is what it was before, with
-- this entry behind it. The step is recorded or not, as `goes_on` says. If it isn't, no further one
-- is.
pub record IsEntered (opened : State) (old : Held) (entry : Entry) (new : Held) : Type 0 where
  pub before : IsKept opened old
  pub after : IsKept opened new
  pub history : after.past ++ new.entries ≡ before.past ++ old.entries ++ entry ∷ []
  pub base : new.base ≡ old.base
  pub recording : new.is_recorded ≡ goes_on old
  pub recorded : new.is_recorded ≡ true → IsRecorded old entry new
  pub unrecorded : new.is_recorded ≡ false → IsUnrecorded old entry new

-- The records that follow say what was done by whoever waited for a lock, whose zone had the state
-- `opened` when it was put behind it. What stands behind the lock at that moment isn't known
-- before.

-- one step: its entry stands behind the others then, at this place of the whole history
pub record IsStepUnderLock (opened : State) (place : ℕ) (entry : Entry) : Type 0 where
  pub old : Held
  pub new : Held
  pub before : IsKept opened old
  pub after : IsKept opened new
  pub step : RunningChange old.zone entry.event entry.outcome new.zone
  pub entries : new.entries ≡ old.entries ++ entry ∷ []
  pub first : new.first ≡ old.first
  pub is_at : place ≡ old.first + length old.entries

-- one step, of which a record may be left out
pub record IsMadeUnderLock (opened : State) (entry : Entry) : Type 0 where
  pub old : Held
  pub new : Held
  pub step : RunningChange old.zone entry.event entry.outcome new.zone
  pub entered : IsEntered opened old entry new

-- a pool was replaced by one step: its entry stands behind the others then, and the old pool, seen
-- as this account, came back with nothing lent
pub record IsReplacedUnderLock (opened : State) (place : ℕ) (entry : Entry) (pool : ℕ)
    (back : Account) : Type 0 where
  pub made : IsStepUnderLock opened place entry
  pub old_pool : IsOldPool made.old.zone pool back

-- no pool was replaced, for this reason
pub record IsRefusedUnderLock (opened : State) (pool : ℕ) (fresh back : Account)
    (fault : ReplaceFault) : Type 0 where
  pub held : Held
  pub kept : IsKept opened held
  pub refusal : IsRefusalOrMemory held.zone.state pool fresh back fault

-- as many steps were made as there may be
pub record IsClosed (opened : State) : Type 0 where
  pub held : Held
  pub kept : IsKept opened held
  pub steps : held.zone.state.steps ≡ most_steps

-- or fewer
pub record IsOpen (opened : State) : Type 0 where
  pub held : Held
  pub kept : IsKept opened held
  pub steps : held.zone.state.steps ≢ most_steps

-- a chapter: the book that was there, from the state in which it began to that of the zone
pub record IsChapterUnderLock (opened : State) (chapter : ChapterValue) : Type 0 where
  pub held : Held
  pub kept : IsKept opened held
  pub first : chapter.first ≡ held.first
  pub base : held.base ≡ Some chapter.base
  pub entries : chapter.entries ≡ held.entries
  pub end : chapter.end ≡ held.zone.state

-- no copy was kept of the state in which the book began
pub record IsWithoutBase (opened : State) : Type 0 where
  pub held : Held
  pub kept : IsKept opened held
  pub none : held.base ≡ None

-- the book that was there, with the copy of the state in which it began, if there was one
pub record IsBookUnderLock (opened : State) (base : Option State) (entries : List Entry)
    : Type 0 where
  pub held : Held
  pub kept : IsKept opened held
  pub base_is : base ≡ held.base
  pub entries_are : entries ≡ held.entries

-- entries that left the lock: the book that was there, with the place of its first entry, and
-- whether further steps are recorded
pub record IsHandedOutUnderLock (opened : State) (first : ℕ) (entries : List Entry)
    (is_recorded : Bool) : Type 0 where
  pub held : Held
  pub kept : IsKept opened held
  pub first_is : first ≡ held.first
  pub entries_are : entries ≡ held.entries
  pub recorded : is_recorded ≡ held.is_recorded

-- What is left of what stood behind a lock. If a copy is kept of the state in which its entries
-- begin, it is all of them, from that state on. Otherwise the entries have been let go: nothing is
-- left but the zone and its state, with the place of the next entry.
abbrev pub IsLeftFrom : Held → Option State → FinishedValue → Type 0
IsLeftFrom h (Some base) f = f ≡ record {
  zone = h.zone;
  base = base;
  entries = h.entries;
  first = h.first;
  carried = h.carried;
}
IsLeftFrom h None f = f ≡ record {
  zone = h.zone;
  base = h.zone.state;
  entries = [];
  first = h.first + length h.entries;
  carried = f.carried;
}

abbrev pub IsLeft : Held → FinishedValue → Type 0
IsLeft h f = IsLeftFrom h h.base f

-- The whole history of a zone that was locked in this state, up to what is left of it: with the
-- entries that are left, those before them, which may have been let go, are a run of the machine to
-- the zone. They are as many as the place of the first entry that is left says, and their totals
-- were carried.
pub record IsWholeHistory (opened : State) (f : FinishedValue) : Type 0 where
  pub past : List Entry
  pub run : BookRun opened (past ++ f.entries) f.zone.state
  pub places : length past ≡ f.first
  pub totals : AreCarriedOn no_totals past f.carried
