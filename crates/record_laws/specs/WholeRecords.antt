-- Records of steps that are a run of their zone, and what an audit finds in them.
use Rattle.std.specs.Prelude.{◌≡◌, ◌≤◌, ◌<◌, ◌+◌, ℕ, List, [], ◌∷◌, length, map, true, Option}
use Rattle.std.specs.Prelude.{IfSome, Some, None}
use Rattle.std.specs.List.{AllByRecursion}
use Rattle.pools.specs.Specs.{account_of}
use Rattle.ras_machine.specs.State.{State, opening}
use Rattle.ras_machine.specs.Steps.{Step}
use Rattle.script.specs.declared.event.ScriptEvent.TheVariants as script
use Rattle.script.specs.Runs.{are_pools_of}
use Rattle.zone_events.specs.declared.change.Change.{Change}
use Rattle.zone_events.specs.declared.change.Change.TheVariants as change
use Rattle.zone_events.specs.declared.event.Event.{Event}
use Rattle.zone_events.specs.declared.outcome.Outcome.{Outcome}
use Rattle.zone_tables.specs.Pools.{figures_of}
use Rattle.record_audit.specs.Audits.{IsRecord}
use Rattle.record_audit.specs.Records.{Standing, most_octets}
use Rattle.record_audit.specs.Written.{IsEvent, event_text}
use Rattle.recording.specs.Again.{IsZone}
use Rattle.recording.specs.Records.{RecordedStep, record_text}
use Rattle.recording.specs.Zones.{ZoneParts, zone_texts}
use Rattle.record_laws.specs.Outcomes.{IsOutcome, outcome_text}

-- an event, with its outcome, as it is recorded, and as a step
abbrev pub recorded : Event × Outcome → RecordedStep
recorded step = (script.Event step.0, step.1)

abbrev pub made : Event × Outcome → Change × Outcome
made step = (change.Event step.0, step.1)

-- what the type of an identifier keeps, if one is handed out: its characters have 16 bits
abbrev pub HasCharacters : Option (List ℕ) → Type 0
HasCharacters given = IfSome given (AllByRecursion (λ c. c < 65536))

-- What the lines of a step from this state can tell: what the types keep, names of one word, and no
-- more octets than a line may have.
pub record AreTold (s : State) (event : Event) (outcome : Outcome) : Type 0 where
  pub event_is : IsEvent event
  pub outcome_is : IsOutcome outcome
  pub short_event : length (event_text event) ≤ most_octets
  pub short_outcome : length (outcome_text (s.steps + 1) outcome) ≤ most_octets
  pub characters : HasCharacters outcome.given

-- step after step from this state, each of which its lines can tell
abbrev pub ToldRun : State → List (Event × Outcome) → State → Type 0
ToldRun s [] after = after ≡ s
ToldRun s (step ∷ steps) after =
    AreTold s step.0 step.1 × (mid : State) × Step s step.0 step.1 mid × ToldRun mid steps after

-- the zone before its first step
abbrev pub opened : ZoneParts → State
opened zone = opening zone.config (figures_of (map account_of zone.pools))

-- a zone that can be recorded, whose pools make a set, and whose lines are short enough
pub record IsToldZone (zone : ZoneParts) : Type 0 where
  pub zone_is : IsZone zone
  pub pools : are_pools_of zone.config (map account_of zone.pools) ≡ true
  pub short : AllByRecursion (λ line. length line ≤ most_octets) (zone_texts zone)

-- an audit knows the zone from its first event on
abbrev pub zone_behind : List (Event × Outcome) → State → Option State
zone_behind [] after = None
zone_behind (step ∷ steps) after = Some after

-- an audit goes on behind each line of the record of these steps, finds these steps in them and no
-- others, and comes to this state, with no event left without its outcome
pub record IsFoundAgain (zone : ZoneParts) (steps : List (Event × Outcome)) (after : State)
    : Type 0 where
  pub standing : Standing
  pub is_record : IsRecord (record_text zone (map recorded steps)) (map made steps) standing
  pub zone_is : standing.zone ≡ zone_behind steps after
  pub whole : standing.awaited ≡ None
  pub alone : (others : List (Change × Outcome)) → (other : Standing)
      → IsRecord (record_text zone (map recorded steps)) others other → others ≡ map made steps
