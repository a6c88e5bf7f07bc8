-- What holds inside a run of the machine, whoever makes its steps.
use Rattle.std.specs.Prelude.{◌≡◌, ◌≤◌, List, [], ◌∷◌, length, max, Ok, Some, IfSome, IsTrue}
use Rattle.std.specs.FinMap.{get}
use Rattle.ras_module.specs.declared.request.Request.{Request}
use Rattle.ras_module.specs.declared.request.TheConstants.Request as request_octets
use Rattle.ras_reading.specs.Messages.{message_reading}
use Rattle.ras_writing.specs.Replies.{encoding_of}
use Rattle.kept_replies.specs.declared.entry.KeptEntry.{KeptEntry}
use Rattle.kept_replies.specs.Kept.{reply_in}
use Rattle.zone_events.specs.declared.change.Change.{Change}
use Rattle.zone_events.specs.declared.change.Change.TheVariants.{Event, PoolChange}
use Rattle.zone_events.specs.declared.event.Event.TheVariants as event
use Rattle.zone_events.specs.declared.outcome.Outcome.{Outcome}
use Rattle.ras_requests.specs.Requests.{HasReply}
use Rattle.ras_machine.specs.Keeping.{is_repeat}
use Rattle.ras_machine.specs.State.{State}
use Rattle.ras_machine.specs.Steps.{IsUnusedIn}
use Rattle.ras_core.specs.Runs.{Run}

-- this holds of each state that a run comes to
abbrev pub EachStateOf : (P : State → Type 0) (s : State) (entries : List (Change × Outcome))
    (after : State) → Run s entries after → Type 0
EachStateOf P s [] after run = Unit {0}
EachStateOf P s (entry ∷ entries) after run = P run.0 × EachStateOf P run.0 entries after run.2

-- this holds of each step of a run
abbrev pub EachStepOf : (P : State → Change → Outcome → State → Type 0) (s : State)
    (entries : List (Change × Outcome)) (after : State) → Run s entries after → Type 0
EachStepOf P s [] after run = Unit {0}
EachStepOf P s (entry ∷ entries) after run =
    P s entry.0 entry.1 run.0 × EachStepOf P run.0 entries after run.2

-- A datagram that came before, from the same address with the same octets, gets the reply that is
-- kept for it: while its window isn't over, and, if the reply confirms a registration, while that
-- is there. It has at most 4,096 octets, and is a request that has a reply.
abbrev pub RepeatsKeptReply : State → Change → Outcome → State → Type 0
RepeatsKeptReply s (Event (event.Datagram source bytes moment)) outcome after =
    (request : Request) (entry : KeptEntry) → length bytes ≤ request_octets.MOST
    → message_reading bytes ≡ Ok (Some request) → HasReply request
    → get s.kept (record { source = source; bytes = bytes }) ≡ Some entry
    → IsTrue (is_repeat s (max s.clock moment) entry)
    → outcome.output ≡ Some (record { to = source; bytes = encoding_of (reply_in entry.state) })
RepeatsKeptReply s (Event (event.Turn moment)) outcome after = Unit {0}
RepeatsKeptReply s (PoolChange replacement) outcome after = Unit {0}

-- an identifier that is handed out is unused: no registration has it, and no kept reply tells it
abbrev pub HandsOutUnused : State → Change → Outcome → State → Type 0
HandsOutUnused s what outcome after = IfSome outcome.given (IsUnusedIn s)
