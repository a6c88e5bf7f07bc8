-- The gatekeeper as a machine: the outcome of each event, and the state that it leaves.
use Rattle.std.specs.Prelude.{ℕ, ◌+◌, ◌^◌, ◌==◌, nat_lt, max, is_some, List, Option, None}
use Rattle.std.specs.Prelude.{Some, if◌then◌else◌}
use Rattle.std.specs.FinMap.{get, len}
use Rattle.ras_module.specs.declared.reply.Reply.{Reply}
use Rattle.ras_module.specs.declared.request.Request.{Request}
use Rattle.ras_writing.specs.Replies.{encoding_of}
use Rattle.pools.specs.declared.interface.Lend.{Lend}
use Rattle.kept_replies.specs.declared.key.KeptKey.{KeptKey}
use Rattle.kept_replies.specs.declared.entry.KeptEntry.{KeptEntry}
use Rattle.kept_replies.specs.declared.entry.KeptState.{KeptState}
use Rattle.kept_replies.specs.declared.entry.KeptState.TheVariants.{Done, Pending}
use Rattle.kept_replies.specs.Kept.{births, reply_in}
use Rattle.zone_events.specs.declared.due_item.DueItem.{DueItem}
use Rattle.zone_events.specs.declared.due_item.DueItem.TheVariants.{Retry}
use Rattle.zone_events.specs.declared.event.Event.{Event}
use Rattle.zone_events.specs.declared.event.Event.TheVariants as event
use Rattle.ras_machine.specs.declared.job.Job.{Job}
use Rattle.ras_machine.specs.declared.job.Occasion.{Occasion}
use Rattle.ras_machine.specs.declared.job.Occasion.TheVariants.{Again, Anew, First}
use Rattle.zone_events.specs.declared.outcome.Datagram.{Datagram}
use Rattle.zone_events.specs.declared.outcome.IgnoredCause.{IgnoredCause}
use Rattle.zone_events.specs.declared.outcome.IgnoredCause.TheVariants.{TooLong, Unreadable}
use Rattle.zone_events.specs.declared.outcome.IgnoredCause.TheVariants.{NotServed}
use Rattle.zone_events.specs.declared.outcome.IgnoredCause.TheVariants.{Busy, UnknownEndpoint}
use Rattle.zone_events.specs.declared.outcome.Note.{Note}
use Rattle.zone_events.specs.declared.outcome.Note.TheVariants as note
use Rattle.zone_events.specs.declared.outcome.Outcome.{Outcome}
use Rattle.zone_events.specs.Events.{moment_in, noted_outcome}
use Rattle.ras_machine.specs.declared.prepared.Message.{Message}
use Rattle.ras_machine.specs.declared.prepared.Message.TheVariants as message
use Rattle.ras_machine.specs.Prepared.{message_in}
use Rattle.ras_machine.specs.State.{State}
use Rattle.zone_tables.specs.Tables.{with_live, heard_now}
use Rattle.ras_requests.specs.Plans.{Served, Plan, Settled, Naming, Asking}
use Rattle.zone_tables.specs.Pools.{RequestedUnits}
use Rattle.ras_requests.specs.Requests.{endpoint_of, plan_of}
use Rattle.ras_machine.specs.Keeping.{Task, Progress, answered, by_answer, is_repeat, kept_after}
use Rattle.ras_machine.specs.Keeping.{dropped_for, plan_at, with_answered_pool}
use Rattle.ras_machine.specs.Turns.{effect}

-- What was chosen in a step: the identifier that was handed out, the answer of the pool that
-- was asked, the birth of the kept entry that was dropped, and the item that was done of
-- those that are due.
pub record Choices : Type 0 where
  pub given : Option (List ℕ)
  pub answer : Option Lend
  pub dropped : Option ℕ
  pub item : Option DueItem

-- What an event calls for: nothing is done; an endpoint gave a sign of life; a kept reply is sent
-- again; a request is served; something else that is due is done; or nothing is due.
pub data Course : Type 0 where
  Ignoring : IgnoredCause → Course
  Hearing : List ℕ → Course
  Repeating : Datagram → Course
  Serving : Task → Course
  Doing : DueItem → Course
  Idle : Course

-- the request is served so, by this plan
abbrev pub serving : Job → ℕ → Request → Plan → Course
serving job now request plan = Serving (record {
  job = job;
  request = request;
  plan = plan_at job.occasion now (endpoint_of request) plan;
})

abbrev pub first : KeptKey → Option ℕ → Job
first key dropped = record { key = key; occasion = First dropped }

abbrev pub anew : KeptKey → Job
anew key = record { key = key; occasion = Anew }

-- What is kept for a datagram: a reply that answers it, as it came before; or an entry of its own
-- that doesn't, since it is over or confirms a registration that has gone; or nothing, and there is
-- a free place for its reply, or none, if as many replies are kept as may be.
pub data Place : Type 0 where
  Answered : Reply → Place
  Own : Place
  Free : Place
  Full : Place

abbrev pub place_by : State → ℕ → Option KeptEntry → Place
place_by s now (Some entry) =
    if is_repeat s now entry then Answered (reply_in entry.state) else Own
place_by s now None = if len s.kept == s.tables.config.kept then Full else Free

abbrev pub place_of : State → ℕ → KeptKey → Place
place_of s now key = place_by s now (get s.kept key)

-- an InfoRequestResponse of an endpoint that is registered is a sign of life
abbrev pub response_course : State → Option (List ℕ) → Course
response_course s None = Ignoring UnknownEndpoint
response_course s (Some endpoint) =
    if is_some (get s.tables.live endpoint)
    then Hearing endpoint
    else Ignoring UnknownEndpoint

-- A request: without a plan it is an InfoRequestResponse. What is kept for its datagram is sent
-- again. It is served if its reply has a place; if all are taken, one that is over is dropped for
-- that reply.
abbrev pub request_case : State → ℕ → KeptKey → Request → Option Plan → Place → Option ℕ → Course
request_case s now key request None place dropped = response_course s (endpoint_of request)
request_case s now key request (Some plan) (Answered reply) dropped =
    Repeating (record { to = key.source; bytes = encoding_of reply })
request_case s now key request (Some plan) Own dropped = serving (anew key) now request plan
request_case s now key request (Some plan) Free dropped =
    serving (first key None) now request plan
request_case s now key request (Some plan) Full None = Ignoring Busy
request_case s now key request (Some plan) Full (Some born) =
    serving (first key (Some born)) now request plan

abbrev pub request_course : State → ℕ → KeptKey → Option ℕ → Request → Course
request_course s now key dropped request =
    request_case s now key request (plan_of s.tables now request) (place_of s now key) dropped

-- A datagram falls under the first that applies: it is too long, unreadable, not served, or a
-- request.
abbrev pub message_course : State → ℕ → KeptKey → Option ℕ → Option Message → Course
message_course s now key dropped None = Ignoring TooLong
message_course s now key dropped (Some message.Unreadable) = Ignoring Unreadable
message_course s now key dropped (Some message.NotServed) = Ignoring NotServed
message_course s now key dropped (Some (message.Request request)) =
    request_course s now key dropped request

abbrev pub datagram_course : State → ℕ → KeptKey → Option ℕ → Course
datagram_course s now key dropped = message_course s now key dropped (message_in key.bytes)

-- A request that waits is served again. (The cases in which nothing is done are those of an
-- entry that isn't there or doesn't wait, and such an entry is never due; and of a request without
-- a plan. In a sound state each request that waits is an AdmissionRequest or a BandwidthRequest,
-- and so has a plan.)
abbrev pub again : KeptKey → ℕ → ℕ → Job
again key born left = record { key = key; occasion = Again born left }

abbrev pub again_course : ℕ → KeptKey → ℕ → Request → ℕ → Option Plan → Course
again_course now key born request left None = Doing (Retry born)
again_course now key born request left (Some plan) =
    serving (again key born left) now request plan

abbrev pub retry_in_course : State → ℕ → KeptKey → ℕ → KeptState → Course
retry_in_course s now key born (Done reply until) = Doing (Retry born)
retry_in_course s now key born (Pending request reply retry left) =
    again_course now key born request left (plan_of s.tables now request)

abbrev pub retry_course : State → ℕ → ℕ → Option (KeptKey × KeptEntry) → Course
retry_course s now born None = Doing (Retry born)
retry_course s now born (Some row) = retry_in_course s now row.0 born row.1.state

-- in a turn any one item that is due is done
abbrev pub turn_course : State → ℕ → Option DueItem → Course
turn_course s now None = Idle
turn_course s now (Some (Retry born)) = retry_course s now born (get (births s.kept) born)
turn_course s now (Some other) = Doing other

-- the clock never goes back
abbrev pub moment_of : State → Event → ℕ
moment_of s what = max s.clock (moment_in what)

abbrev pub course_at : State → ℕ → Event → Choices → Course
course_at s now (event.Datagram source bytes moment) choices =
    datagram_course s now (record { source = source; bytes = bytes }) choices.dropped
course_at s now (event.Turn moment) choices = turn_course s now choices.item

abbrev pub course : State → Event → Choices → Course
course s what choices = course_at s (moment_of s what) what choices

-- an outcome, and the state that it leaves
abbrev pub Ending : Type 0
Ending = Option (Outcome × State)

-- if no request is served: nothing was chosen, and this is the note
abbrev pub noted : Note → Option Datagram → State → Ending
noted what output s = Some (noted_outcome what output, s)

-- what happened in a step in which a request was served
abbrev pub note_at : Occasion → Note
note_at (First dropped) = note.Served
note_at Anew = note.Served
note_at (Again born left) = note.Done (Retry born)

-- a reply goes to where the datagram came from, and is kept
abbrev pub ended : State → ℕ → Task → Option (List ℕ) → Option Lend → Progress → Ending
ended s now task given answer p = Some (
  record {
    output = Some (record { to = task.job.key.source; bytes = encoding_of p.served.reply });
    note = note_at task.job.occasion;
    given = given;
    answer = answer;
    dropped = dropped_for task.job.occasion;
  },
  record s { tables = p.served.tables; kept = kept_after s now task p },
)

abbrev pub with_name : State → ℕ → Task → (List ℕ → Served) → Option (List ℕ) → Ending
with_name s now task named None = None
with_name s now task named (Some id) = ended s now task (Some id) None (answered (named id))

abbrev pub with_answer : State → ℕ → Task → RequestedUnits → (ℕ → Served) → Served → Option Lend
    → Ending
with_answer s now task ask lent refused None = None
with_answer s now task ask lent refused (Some answer) =
    ended s now task None (Some answer) (with_answered_pool s.tables ask answer
    (by_answer s.tables.config.delay task ask lent refused answer))

-- a request is served with what was chosen; nothing is returned if a choice that it calls for
-- wasn't made
abbrev pub plan_ending : State → ℕ → Task → Plan → Choices → Ending
plan_ending s now task (Settled served) choices = ended s now task None None (answered served)
plan_ending s now task (Naming named) choices = with_name s now task named choices.given
plan_ending s now task (Asking ask lent refused) choices =
    with_answer s now task ask lent refused choices.answer

abbrev pub course_ending : State → ℕ → Course → Choices → Ending
course_ending s now (Ignoring cause) choices = noted (note.Ignored cause) None s
course_ending s now (Hearing endpoint) choices = noted note.Served None
    (record s { tables = with_live s.tables (heard_now now endpoint s.tables.live) })
course_ending s now (Repeating datagram) choices = noted note.Kept (Some datagram) s
course_ending s now (Serving task) choices = plan_ending s now task task.plan choices
course_ending s now (Doing item) choices =
    noted (note.Done item) (effect s now item).output (effect s now item).state
course_ending s now Idle choices = noted note.Idle None s

-- the clock stands at `now`, and `steps` steps are made
abbrev pub at_moment : ℕ → ℕ → Ending → Ending
at_moment now steps None = None
at_moment now steps (Some answer) = Some (answer.0, record answer.1 { clock = now; steps = steps })

-- this many steps are made, and no more
abbrev pub most_steps : ℕ
most_steps = 2 ^ 62

-- One event, with what was chosen in its step: its outcome and the state after it. There is none
-- if the gatekeeper is closed, nor if a choice that is called for wasn't made.
abbrev pub machine : State → Event → Choices → Ending
machine s what choices =
    if nat_lt s.steps most_steps
    then at_moment (moment_of s what) (s.steps + 1)
    (course_ending s (moment_of s what) (course s what choices) choices)
    else None
