-- The text of a record, and what each call writes of it.
use Rattle.std.specs.Prelude.{ℕ, ◌≡◌, ◌+◌, ◌≤◌, ◌<◌, Bool, true, false, List, [], ◌++◌, length}
use Rattle.std.specs.Prelude.{◌≢◌, ◌⊎◌, ◌∷◌, nat_le, nat_lt, Option, Some, None, Result, Ok, Err}
use Rattle.std.specs.Prelude.{codes, map}
use Rattle.std.specs.Fmt.{decimal}
use Rattle.std.specs.Io.KnownBytes.{Appends}
use Rattle.books.specs.declared.book.Entry.{Entry}
use Rattle.zone_events.specs.declared.change.Change.{Change}
use Rattle.zone_events.specs.declared.change.Change.TheVariants as change
use Rattle.zone_events.specs.declared.outcome.Outcome.{Outcome}
use Rattle.script.specs.declared.event.ScriptEvent.{ScriptEvent}
use Rattle.script.specs.declared.event.ScriptEvent.TheVariants as script
use Rattle.script.specs.EventLines.{event_line}
use Rattle.script.specs.Prints.{lines_from, outcome_line}
use Rattle.recording.specs.declared.writer.End.{End}
use Rattle.recording.specs.declared.writer.End.TheVariants.{Full, PoolReplaced, Overrun}
use Rattle.recording.specs.declared.writer.Recorded.{Recorded}
use Rattle.recording.specs.declared.writer.Recorded.TheVariants.{Written, Ended, Closed}
use Rattle.recording.specs.Standings.{Standing}
use Rattle.recording.specs.Zones.{ZoneParts, zone_lines}

-- an event, with the outcome that it had
abbrev pub RecordedStep : Type 0
RecordedStep = ScriptEvent × Outcome

-- the line of the event, and the line of the outcome with this number
abbrev pub step_lines : ℕ → RecordedStep → List ℕ
step_lines number step = event_line step.0 ++ outcome_line number step.1

-- the lines of the zone, and behind them those of the steps, numbered from 1
abbrev pub record_text : ZoneParts → List RecordedStep → List ℕ
record_text zone steps = zone_lines zone ++ lines_from step_lines 1 steps

-- why a record with this bound ends
abbrev pub end_text : End → ℕ → List ℕ
end_text Full most = codes "another would pass its bound of " ++ decimal most ++ codes " octets\n"
end_text PoolReplaced most = codes "the next one replaces a pool\n"
end_text Overrun most = codes "too many others waited to be written\n"

-- the last line of a record that ended, which an audit passes over
abbrev pub last_line : End → ℕ → ℕ → List ℕ
last_line why steps most =
    codes "# the record ends here: it has " ++ decimal steps ++ codes " steps, and "
    ++ end_text why most

-- Behind what the output held before, just the record of this zone and of these steps was written,
-- and is counted.
pub record IsRecordOf (before : Option (List ℕ)) (zone : ZoneParts) (steps : List RecordedStep)
    (standing : Standing) : Type 0 where
  pub text : Appends before standing.output.contents (record_text zone steps)
  pub count : standing.steps ≡ length steps
  pub octets : standing.octets ≡ length (record_text zone steps)
  pub bound : standing.octets ≤ standing.most

-- nothing but the last line was written of a record that has no room for the lines of its zone
pub record IsFullAtOnce (before : Option (List ℕ)) (most : ℕ) (standing : Standing) : Type 0 where
  pub text : Appends before standing.output.contents (last_line Full 0 most)
  pub steps : standing.steps ≡ 0

abbrev pub BeginsAt : Bool → Option (List ℕ) → ZoneParts → Standing → Type 0
BeginsAt true before zone standing = IsFullAtOnce before standing.most standing
BeginsAt false before zone standing = IsRecordOf before zone [] standing

-- a record of this zone was begun, with this bound: it is open unless the zone's lines pass that
pub record IsBegun (before : Option (List ℕ)) (zone : ZoneParts) (most : ℕ) (standing : Standing)
    : Type 0 where
  pub bound : standing.most ≡ most
  pub is_open : standing.is_open ≡ nat_le (length (zone_lines zone)) most
  pub text : BeginsAt (nat_lt most (length (zone_lines zone))) before zone standing

-- lines were written
pub record IsWritten (old : Standing) (lines : List ℕ) (new : Standing) : Type 0 where
  pub was_open : old.is_open ≡ true
  pub room : old.octets + length lines ≤ old.most
  pub text : Appends old.output.contents new.output.contents lines
  pub steps : new.steps ≡ old.steps + 1
  pub octets : new.octets ≡ old.octets + length lines
  pub most : new.most ≡ old.most
  pub is_open : new.is_open ≡ true

-- the record is closed, with as many steps as before
pub record IsStopped (old new : Standing) : Type 0 where
  pub was_open : old.is_open ≡ true
  pub steps : new.steps ≡ old.steps
  pub octets : new.octets ≡ old.octets
  pub most : new.most ≡ old.most
  pub is_open : new.is_open ≡ false

-- the last line was written, which says why
pub record IsEnded (why : End) (old new : Standing) : Type 0 where
  pub stopped : IsStopped old new
  pub text : Appends old.output.contents new.output.contents (last_line why old.steps old.most)

-- lines would have passed the bound
pub record IsFull (old : Standing) (lines : List ℕ) (new : Standing) : Type 0 where
  pub room : old.most < old.octets + length lines
  pub ended : IsEnded Full old new

-- what became of a step that was to be recorded
abbrev pub IsAnswer : {E : Type 0} → Standing → RecordedStep → Result Recorded E → Standing → Type 0
IsAnswer old step (Ok Written) new = IsWritten old (step_lines (old.steps + 1) step) new
IsAnswer old step (Ok (Ended Full)) new = IsFull old (step_lines (old.steps + 1) step) new
IsAnswer old step (Ok (Ended PoolReplaced)) new = ⊥
IsAnswer old step (Ok (Ended Overrun)) new = ⊥
IsAnswer old step (Ok Closed) new = (old.is_open ≡ false) × (new ≡ old)
IsAnswer old step (Err fault) new = IsStopped old new

-- what became of a record that was to end
abbrev pub IsEndAnswer : {E : Type 0} → End → Standing → Result Recorded E → Standing → Type 0
IsEndAnswer why old (Ok Written) new = ⊥
IsEndAnswer why old (Ok (Ended told)) new = (told ≡ why) × IsEnded why old new
IsEndAnswer why old (Ok Closed) new = (old.is_open ≡ false) × (new ≡ old)
IsEndAnswer why old (Err fault) new = IsStopped old new

-- The event of a line that tells this change. No line tells of a pool that was replaced: it shows
-- the kind of the fresh pool, which figures don't.
abbrev pub told_event : Change → Option ScriptEvent
told_event (change.Event event) = Some (script.Event event)
told_event (change.PoolChange replacement) = None

-- the step of a change with its outcome, if lines tell it
abbrev pub told_step : Option ScriptEvent → Outcome → Option RecordedStep
told_step None outcome = None
told_step (Some event) outcome = Some (event, outcome)

abbrev pub step_of : Entry → Option RecordedStep
step_of entry = told_step (told_event entry.event) entry.outcome

-- what became of a step that was to be recorded, if lines tell it; at another one the record ends
abbrev pub IsToldAnswer : {E : Type 0} → Standing → Option RecordedStep → Result Recorded E
    → Standing → Type 0
IsToldAnswer old (Some step) result new = IsAnswer old step result new
IsToldAnswer old None result new = IsEndAnswer PoolReplaced old result new

-- what became of an entry that was to be recorded
abbrev pub IsEntryAnswer : {E : Type 0} → Standing → Entry → Result Recorded E → Standing → Type 0
IsEntryAnswer old entry result new = IsToldAnswer old (step_of entry) result new

-- What became of entries that were to be recorded, oldest first: each was written behind those
-- before it, up to one that wasn't; of those behind that one nothing was.
abbrev pub AreAnswered : {E : Type 0} → Standing → List Entry → Result Recorded E → Standing
    → Type 0
AreAnswered old [] result new = (result ≡ Ok Written) × (new ≡ old)
AreAnswered {E} old (entry ∷ entries) result new =
    ((mid : Standing) × IsEntryAnswer {E = E} old entry (Ok Written) mid
    × AreAnswered mid entries result new)
    ⊎ ((result ≢ Ok Written) × IsEntryAnswer old entry result new)

-- the record of the zone and of some steps has grown by the steps of these entries
pub record HasGrown (before : Option (List ℕ)) (zone : ZoneParts) (steps : List RecordedStep)
    (entries : List Entry) (standing : Standing) : Type 0 where
  pub more : List RecordedStep
  pub are_theirs : map step_of entries ≡ map Some more
  pub is_record : IsRecordOf before zone (steps ++ more) standing

-- of those that were left all were written; or the first of them wasn't, and so was answered
abbrev pub IsLastAnswer : {E : Type 0} → Standing → List Entry → Result Recorded E → Standing
    → Type 0
IsLastAnswer old [] result new = (result ≡ Ok Written) × (new ≡ old)
IsLastAnswer old (entry ∷ entries) result new =
    (result ≢ Ok Written) × IsEntryAnswer old entry result new

-- the record has grown by the entries before the one that was answered last
pub record HasGrownUpTo {E : Type 0} (before : Option (List ℕ)) (zone : ZoneParts)
    (steps : List RecordedStep) (entries : List Entry) (result : Result Recorded E)
    (standing : Standing) : Type 0 where
  pub front : List Entry
  pub behind : List Entry
  pub parts : entries ≡ front ++ behind
  pub between : Standing
  pub grown : HasGrown before zone steps front between
  pub last : IsLastAnswer between behind result standing
