-- Audits of whole records.
use Rattle.std.specs.Prelude.{ℕ, ◌≡◌, ◌≢◌, ◌≤◌, ◌<◌, ◌+◌, ◌++◌, ◌^◌, ◌⊎◌, ◌||◌, List, [], ◌∷◌}
use Rattle.std.specs.Prelude.{length, nat_lt, is_some, Result, Ok, Err}
use Rattle.zone_events.specs.declared.change.Change.{Change}
use Rattle.zone_events.specs.declared.outcome.Outcome.{Outcome}
use Rattle.record_audit.specs.declared.fault.AuditFault.{AuditFault}
use Rattle.record_audit.specs.declared.fault.AuditFault.TheVariants.{Line, TooLong, Stream}
use Rattle.record_audit.specs.declared.fault.LineFault.{LineFault}
use Rattle.record_audit.specs.declared.fault.LineFault.TheVariants.{Memory}
use Rattle.record_audit.specs.declared.whole_record.Audited.{Audited}
use Rattle.record_audit.specs.Lines.{begun_behind, lines_behind}
use Rattle.record_audit.specs.Records.{CannotGo, GoesThrough, IsRunTo, Standing, beginning}
use Rattle.record_audit.specs.Records.{fault_at, most_octets}

-- Where the audit of a record stands that is read piece by piece: behind `lines` lines, and with
-- the octets of the next one that were read.
pub record Reading : Type 0 where
  pub standing : Standing
  pub begun : List ℕ
  pub lines : ℕ

abbrev pub first_reading : Reading
first_reading = record { standing = beginning; begun = []; lines = 0 }

-- the audit goes on behind each line that ends in these octets
pub record Follows (old : Reading) (octets : List ℕ) (new : Reading) : Type 0 where
  pub steps : List (Change × Outcome)
  pub through : GoesThrough old.standing (lines_behind old.begun octets) steps new.standing
  pub begun : new.begun ≡ begun_behind old.begun octets
  pub lines : new.lines ≡ old.lines + length (lines_behind old.begun octets)

-- these lines end in octets, and a further one, without an end, is too long already
pub record IsTooLong (before : List (List ℕ)) (line begun octets : List ℕ) : Type 0 where
  pub before_it : lines_behind begun octets ≡ before
  pub is_begun : begun_behind begun octets ≡ line
  pub long : most_octets < length line

-- this line is the next one behind these: it ends in the octets, or is too long already
abbrev pub IsNext : List (List ℕ) → List ℕ → List ℕ → List ℕ → Type 0
IsNext before line begun octets =
    ((others : List (List ℕ)) × (lines_behind begun octets ≡ before ++ line ∷ others))
    ⊎ IsTooLong before line begun octets

-- the line with this number is the first behind which no audit goes on, for this reason
pub record StopsAt (old : Reading) (octets : List ℕ) (number : ℕ) (fault : LineFault) : Type 0 where
  pub before : List (List ℕ)
  pub steps : List (Change × Outcome)
  pub mid : Standing
  pub line : List ℕ
  pub through : GoesThrough old.standing before steps mid
  pub place : IsNext before line old.begun octets
  pub count : number ≡ old.lines + length before + 1
  pub cannot : CannotGo mid line
  pub why : fault ≡ fault_at mid line

-- Octets are a record of these steps: an audit goes on behind each line that ends in them, and
-- comes to stand here; what has no end isn't longer than a line.
pub record IsRecord (octets : List ℕ) (steps : List (Change × Outcome)) (new : Standing)
    : Type 0 where
  pub through : GoesThrough beginning (lines_behind [] octets) steps new
  pub few : length (begun_behind [] octets) ≤ most_octets

-- octets are no record, of whatever steps
abbrev pub IsNoRecord : List ℕ → Type 0
IsNoRecord octets = (steps : List (Change × Outcome)) → (new : Standing)
    → IsRecord octets steps new → ⊥

-- Octets are a record of steps that are counted, which are a run from the zone that its first lines
-- describe. It is cut off if its last line has no end, or is an event without its outcome.
pub record IsAudited (octets : List ℕ) (audited : Audited) : Type 0 where
  pub steps : List (Change × Outcome)
  pub standing : Standing
  pub is_record : IsRecord octets steps standing
  pub is_run : IsRunTo steps standing.zone
  pub count : audited.steps ≡ length steps
  pub lines : audited.lines ≡ length (lines_behind [] octets)
  pub cut : audited.is_cut_off
      ≡ (nat_lt 0 (length (begun_behind [] octets)) || is_some standing.awaited)

-- a first line that doesn't stand right; want of memory aside
abbrev pub IsStopped : Reading → List ℕ → AuditFault → Type 0
IsStopped old octets (Line number fault) = fault ≢ Memory → StopsAt old octets number fault
IsStopped old octets TooLong = ⊥
IsStopped old octets Stream = ⊥

-- what an audit of octets comes to; a failed read and want of memory are left open
abbrev pub IsAuditOf : List ℕ → Result Audited AuditFault → Type 0
IsAuditOf octets (Ok audited) = IsAudited octets audited
IsAuditOf octets (Err (Line number fault)) =
    fault ≢ Memory → StopsAt first_reading octets number fault × IsNoRecord octets
IsAuditOf octets (Err TooLong) = 2 ^ 51 ≤ length octets
IsAuditOf octets (Err Stream) = Unit {0}
