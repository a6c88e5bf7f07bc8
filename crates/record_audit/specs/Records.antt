-- Records of what a gatekeeper did: first the lines of its zone, then for each step the line of its
-- event, and below it the line of its outcome.
use Rattle.std.specs.Prelude.{ℕ, ◌≡◌, ◌+◌, ◌++◌, ◌==◌, ◌&&◌, List, [], ◌∷◌, length, map}
use Rattle.std.specs.Prelude.{◌≤◌, nat_lt, slice_index, Bool, true, false, Option, None, Some, is_some}
use Rattle.std.specs.Prelude.{Result, Ok, Err, if◌then◌else◌}
use Rattle.std.specs.FinMap.{get}
use Rattle.pools.specs.Specs.{account_of}
use Rattle.zone_events.specs.declared.change.Change.{Change}
use Rattle.zone_events.specs.declared.change.Change.TheVariants as change
use Rattle.zone_events.specs.declared.outcome.Datagram.{Datagram}
use Rattle.zone_events.specs.declared.outcome.Note.{Note}
use Rattle.zone_events.specs.declared.outcome.Note.TheVariants.{Served, Kept, Ignored, Done, Idle}
use Rattle.zone_events.specs.declared.outcome.Note.TheVariants.{Replaced}
use Rattle.zone_events.specs.declared.outcome.Outcome.{Outcome}
use Rattle.zone_tables.specs.Pools.{figures_of}
use Rattle.ras_machine.specs.State.{State, opening}
use Rattle.ras_core.specs.Replacing.{change_by}
use Rattle.ras_core.specs.Runs.{ChangeStep, Run}
use Rattle.script.specs.declared.event.ScriptEvent.{ScriptEvent}
use Rattle.script.specs.declared.event.ScriptEvent.TheVariants as script
use Rattle.script.specs.declared.fault.ScriptFault.{ScriptFault}
use Rattle.script.specs.declared.fault.ScriptFault.TheVariants as script_fault
use Rattle.script.specs.declared.line.Line.{Line}
use Rattle.script.specs.declared.line.Line.TheVariants.{Blank, Zone, Set, Pool, At}
use Rattle.script.specs.declared.outcome.ShownOutcome.{ShownOutcome}
use Rattle.script.specs.declared.read.Script.{Script}
use Rattle.script.specs.Lines.{line_of}
use Rattle.script.specs.Outcomes.{shown_of}
use Rattle.script.specs.Runs.{are_pools_of}
use Rattle.script.specs.Said.{Said, MayFollow, with_line}
use Rattle.script.specs.Scripts.{script_from}
use Rattle.record_audit.specs.declared.fault.LineFault.{LineFault}
use Rattle.record_audit.specs.declared.fault.LineFault.TheVariants.{NotUnderstood, NotAStep, NoZone}
use Rattle.record_audit.specs.declared.fault.LineFault.TheVariants.{NoDefaultPool}
use Rattle.record_audit.specs.Told.{told_in}

-- what changes the zone in an event; a fresh pool is offered with nothing lent
abbrev pub change_of : ScriptEvent → Change
change_of (script.Event event) = change.Event event
change_of (script.Replace replacement) = change.PoolChange
    (change_by replacement.pool (account_of replacement.fresh) replacement.moment)

-- an identifier by which no endpoint is registered
abbrev pub unless_live : State → Option (List ℕ) → Option (List ℕ)
unless_live s None = None
unless_live s (Some id) = if is_some (get s.tables.live id) then None else Some id

-- the identifier that is told in a reply, if it confirms a registration that isn't there yet
abbrev pub newcomer_in : State → Option Datagram → Option (List ℕ)
newcomer_in s None = None
newcomer_in s (Some datagram) = unless_live s (told_in datagram.bytes)

-- The identifier that was handed out in a step from this state, in which this was noted and sent:
-- that of a newcomer, if a request was served.
abbrev pub handed_out : State → Note → Option Datagram → Option (List ℕ)
handed_out s Served output = newcomer_in s output
handed_out s Kept output = None
handed_out s (Ignored cause) output = None
handed_out s (Done item) output = None
handed_out s Idle output = None
handed_out s (Replaced pool) output = None

-- the outcome of a step from this state, by what its line shows
abbrev pub completed : State → Outcome → Outcome
completed s shown = record shown { given = handed_out s shown.note shown.output }

-- Where an audit stands: what the zone's lines say, before the first event; the state of the zone,
-- from there on; and what is to change it next, if the line of that was read.
pub record Standing : Type 0 where
  pub said : Said
  pub zone : Option State
  pub awaited : Option Change

-- no line was read
abbrev pub nothing_said : Said
nothing_said = record { zone = None; settings = []; pools = []; events = [] }

abbrev pub beginning : Standing
beginning = record { said = nothing_said; zone = None; awaited = None }

-- how many steps were made
abbrev pub steps_of : Option State → ℕ
steps_of None = 0
steps_of (Some s) = s.steps

-- a line that begins with a number sign
abbrev pub is_remark : List ℕ → Bool
is_remark line = nat_lt 0 (length line) && (slice_index line 0 == 35)

-- the script that is said
abbrev pub script_in : Said → Result Script ScriptFault
script_in said = script_from said.zone said.settings said.pools said.events

-- the state before the first step of the zone of a script
abbrev pub opening_of : Script → State
opening_of script = opening script.config (figures_of (map account_of script.pools))

-- the zone of a script, unless its pools make no set
abbrev pub IsOpened : Script → Option State → Type 0
IsOpened script (Some s) =
    (are_pools_of script.config (map account_of script.pools) ≡ true)
    × (s ≡ opening_of script)
IsOpened script None = are_pools_of script.config (map account_of script.pools) ≡ false

-- the zone before its first step, by its lines
abbrev pub Opens : Result Script ScriptFault → ScriptEvent → Standing → Type 0
Opens (Err fault) event new = ⊥
Opens (Ok script) event new =
    (are_pools_of script.config (map account_of script.pools) ≡ true)
    × (new ≡ record {
      said = nothing_said;
      zone = Some (opening_of script);
      awaited = Some (change_of event);
    })

-- a line of the zone, or the first event
abbrev pub Describes : Standing → Option Line → Standing → Type 0
Describes old None new = ⊥
Describes old (Some (At event)) new =
    Opens (script_in old.said) event new
Describes old (Some line) new =
    MayFollow old.said line × (new ≡ record old { said = with_line old.said line })

-- an event, or a blank line
abbrev pub Calls : Standing → Option Line → Standing → Type 0
Calls old (Some (At event)) new = new ≡ record old { awaited = Some (change_of event) }
Calls old (Some Blank) new = new ≡ old
Calls old (Some (Zone name address)) new = ⊥
Calls old (Some (Set setting)) new = ⊥
Calls old (Some (Pool pool)) new = ⊥
Calls old None new = ⊥

-- a step from this state with the next number, counted from 1, and the outcome that is shown
pub record IsShownStep (old : State) (what : Change) (shown : ShownOutcome) (new : State)
    : Type 0 where
  pub next : shown.number ≡ old.steps + 1
  pub step : ChangeStep old what (completed old shown.outcome) new

-- whether there is one is told, and it was made if there is
abbrev pub IsDoneAgain : State → Change → ShownOutcome → Bool → State → Type 0
IsDoneAgain old what shown true new = IsShownStep old what shown new
IsDoneAgain old what shown false new = (after : State) → IsShownStep old what shown after → ⊥

-- a line shows the outcome of a step
abbrev pub ShowsStep : State → Change → Option ShownOutcome → State → Type 0
ShowsStep s what None after = ⊥
ShowsStep s what (Some shown) after = IsShownStep s what shown after

-- the outcome of a step of the zone
abbrev pub Ends : State → Change → Option ShownOutcome → Standing → Standing → Type 0
Ends s what shown old new = (after : State) × ShowsStep s what shown after
    × (new ≡ record old { zone = Some after; awaited = None })

-- what a line is, by where it stands
abbrev pub Takes : Option State → Option Change → Standing → List ℕ → Standing → Type 0
Takes None awaited old line new = Describes old (line_of line) new
Takes (Some s) None old line new = Calls old (line_of line) new
Takes (Some s) (Some what) old line new = Ends s what (shown_of line) old new

abbrev pub GoesUnless : Bool → Standing → List ℕ → Standing → Type 0
GoesUnless true old line new = new ≡ old
GoesUnless false old line new = Takes old.zone old.awaited old line new

-- the octets that a line has at most, without its end
abbrev pub most_octets : ℕ
most_octets = 131072

-- an audit goes on from here behind this line
abbrev pub Goes : Standing → List ℕ → Standing → Type 0
Goes old line new = (length line ≤ most_octets) × GoesUnless (is_remark line) old line new

-- a line with which no audit goes on from here
abbrev pub CannotGo : Standing → List ℕ → Type 0
CannotGo old line = (new : Standing) → Goes old line new → ⊥

-- why the lines before the first event make no zone
abbrev pub fault_of_head : Result Script ScriptFault → LineFault
fault_of_head (Ok script) = NotUnderstood
fault_of_head (Err script_fault.NoZone) = NoZone
fault_of_head (Err script_fault.NoDefaultPool) = NoDefaultPool
fault_of_head (Err other) = NotUnderstood

abbrev pub fault_describing : Said → Option Line → LineFault
fault_describing said (Some (At event)) = fault_of_head (script_in said)
fault_describing said other = NotUnderstood

-- a line that is awaited shows no outcome, or one that no step has
abbrev pub fault_ending : Option ShownOutcome → LineFault
fault_ending None = NotUnderstood
fault_ending (Some shown) = NotAStep

abbrev pub fault_taking : Option State → Option Change → Standing → List ℕ → LineFault
fault_taking None awaited old line = fault_describing old.said (line_of line)
fault_taking (Some s) None old line = NotUnderstood
fault_taking (Some s) (Some what) old line = fault_ending (shown_of line)

-- why no audit goes on from here behind this line, if none does
abbrev pub fault_at : Standing → List ℕ → LineFault
fault_at old line =
    if nat_lt most_octets (length line)
    then NotUnderstood
    else fault_taking old.zone old.awaited old line

-- the step that is recorded by a line, if it is the line of an outcome
abbrev pub step_shown : State → Change → Option ShownOutcome → List (Change × Outcome)
step_shown s what None = []
step_shown s what (Some shown) = (what, completed s shown.outcome) ∷ []

abbrev pub step_taken : Option State → Option Change → List ℕ → List (Change × Outcome)
step_taken None awaited line = []
step_taken (Some s) None line = []
step_taken (Some s) (Some what) line = step_shown s what (shown_of line)

abbrev pub step_unless : Bool → Standing → List ℕ → List (Change × Outcome)
step_unless true standing line = []
step_unless false standing line = step_taken standing.zone standing.awaited line

abbrev pub step_by : Standing → List ℕ → List (Change × Outcome)
step_by standing line = step_unless (is_remark line) standing line

-- an audit goes on behind each of these lines, in which these steps are recorded
abbrev pub GoesThrough : Standing → List (List ℕ) → List (Change × Outcome) → Standing → Type 0
GoesThrough old [] steps new = (new ≡ old) × (steps ≡ [])
GoesThrough old (line ∷ lines) steps new =
    (mid : Standing) × Goes old line mid × (others : List (Change × Outcome))
    × GoesThrough mid lines others new × (steps ≡ step_by old line ++ others)

-- The steps are a run from the zone of a script to this state; before the first event there are
-- none.
abbrev pub IsRunTo : List (Change × Outcome) → Option State → Type 0
IsRunTo steps None = steps ≡ []
IsRunTo steps (Some s) = (script : Script)
    × (are_pools_of script.config (map account_of script.pools) ≡ true)
    × Run (opening_of script) steps s
