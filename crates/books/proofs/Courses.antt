-- What the course of an event adds to the bandwidth in use.
use Rattle.std.proofs.Common.{◌≡◌, ℕ, Bool, true, false, List, refl}
use Rattle.std.proofs.Common.{subst, Some, None, arith}
use Rattle.std.specs.Prelude.{Option, IfSome, if◌then◌else◌, is_some, nat_lt}
use Rattle.std.specs.FinMap.{get}
use Rattle.keyed.proofs.Decide.{same_some}
use Rattle.ras_module.specs.declared.request.Request.{Request}
use Rattle.pools.specs.declared.interface.Lend.{Lend}
use Rattle.pools.specs.declared.interface.Lend.TheVariants.{Lent, Refused, Wait}
use Rattle.kept_replies.specs.declared.key.KeptKey.{KeptKey}
use Rattle.kept_replies.specs.declared.entry.KeptEntry.{KeptEntry}
use Rattle.kept_replies.specs.declared.entry.KeptState.{KeptState}
use Rattle.kept_replies.specs.declared.entry.KeptState.TheVariants.{Done, Pending}
use Rattle.kept_replies.specs.Kept.{births}
use Rattle.zone_events.specs.declared.due_item.DueItem.{DueItem}
use Rattle.zone_events.specs.declared.due_item.DueItem.TheVariants as item
use Rattle.zone_events.specs.declared.event.Event.{Event}
use Rattle.zone_events.specs.declared.event.Event.TheVariants as event
use Rattle.zone_events.specs.declared.outcome.IgnoredCause.TheVariants.{UnknownEndpoint}
use Rattle.zone_events.specs.declared.outcome.Outcome.{Outcome}
use Rattle.zone_tables.specs.Pools.{RequestedUnits}
use Rattle.ras_requests.specs.Plans.{Plan, Served, Settled, Naming, Asking}
use Rattle.ras_requests.specs.Rrq.{named}
use Rattle.ras_requests.specs.Requests.{endpoint_of, plan_of}
use Rattle.ras_machine.specs.declared.job.Job.{Job}
use Rattle.ras_machine.specs.declared.prepared.Message.{Message}
use Rattle.ras_machine.specs.declared.prepared.Message.TheVariants as message
use Rattle.ras_machine.specs.Prepared.{message_in}
use Rattle.ras_machine.specs.Keeping.{Task, answered, granted, in_progress, may_wait}
use Rattle.ras_machine.specs.Keeping.{with_answered_pool}
use Rattle.ras_machine.specs.State.{State}
use Rattle.ras_machine.specs.Machine as machine
use Rattle.ras_machine.specs.Machine.{Choices, Course, Ending, Place}
use Rattle.ras_machine.specs.Machine.{course_ending}
use Rattle.ras_machine.specs.Steps.{choices_of}
use Rattle.books.specs.Totals.{units_lent}
use Rattle.books.proofs.Additions.{Adds, nothing, AddsBy, has_left, plans, plans_at}

-- the course that an event takes adds no more than is lent
abbrev AddsAlong : State → Course → Type 0
AddsAlong s (machine.Serving task) = AddsBy s.tables task.plan
AddsAlong s other = Unit {0}

module _ (s : State) (now : ℕ) where
  serves : (job : Job) (request : Request) (plan : Plan) → AddsBy s.tables plan
      → AddsAlong s (machine.serving job now request plan)
  serves job request plan is = plans_at s.tables job.occasion now (endpoint_of request) plan is

  responds : (endpoint : Option (List ℕ)) → AddsAlong s (machine.response_course s endpoint)
  responds None = tt
  responds (Some endpoint) = by_test (is_some (get s.tables.live endpoint)) where
    by_test : (b : Bool) → AddsAlong s (if b then machine.Hearing endpoint else machine.Ignoring
        UnknownEndpoint)
    by_test true = tt
    by_test false = tt

  requests : (key : KeptKey) (request : Request) (w : Option Plan) (place : Place)
      (dropped : Option ℕ)
      → IfSome w (AddsBy s.tables) → AddsAlong s (machine.request_case s now key request w place
      dropped)
  requests key request None place dropped is = responds (endpoint_of request)
  requests key request (Some plan) (machine.Answered reply) dropped is = tt
  requests key request (Some plan) machine.Own dropped is =
      serves (machine.anew key) request plan is
  requests key request (Some plan) machine.Free dropped is =
      serves (machine.first key None) request plan is
  requests key request (Some plan) machine.Full None is = tt
  requests key request (Some plan) machine.Full (Some born) is =
      serves (machine.first key (Some born)) request plan is

  messages : (key : KeptKey) (dropped : Option ℕ) (m : Option Message)
      → AddsAlong s (machine.message_course s now key dropped m)
  messages key dropped None = tt
  messages key dropped (Some message.Unreadable) = tt
  messages key dropped (Some message.NotServed) = tt
  messages key dropped (Some (message.Request request)) =
      requests key request (plan_of s.tables now request) (machine.place_of s now key) dropped
      (plans s.tables now request)

  agains : (key : KeptKey) (born : ℕ) (request : Request) (left : ℕ) (w : Option Plan)
      → IfSome w (AddsBy s.tables) → AddsAlong s (machine.again_course now key born request left w)
  agains key born request left None is = tt
  agains key born request left (Some plan) is =
      serves (machine.again key born left) request plan is

  retries : (key : KeptKey) (born : ℕ) (state : KeptState)
      → AddsAlong s (machine.retry_in_course s now key born state)
  retries key born (Done reply until) = tt
  retries key born (Pending request reply retry left) =
      agains key born request left (plan_of s.tables now request) (plans s.tables now request)

  waited : (born : ℕ) (w : Option (KeptKey × KeptEntry)) → AddsAlong s
      (machine.retry_course s now born w)
  waited born None = tt
  waited born (Some row) = retries row.0 born row.1.state

  turns : (w : Option DueItem) → AddsAlong s (machine.turn_course s now w)
  turns None = tt
  turns (Some (item.RegistrationOver id)) = tt
  turns (Some (item.Interrogate id)) = tt
  turns (Some (item.Silent id)) = tt
  turns (Some (item.Retry born)) = waited born (get (births s.kept) born)
  turns (Some (item.KeptOver born)) = tt
  turns (Some item.PoolTurn) = tt

  pub along : (what : Event) (choices : Choices)
      → AddsAlong s (machine.course_at s now what choices)
  along (event.Datagram source bytes moment) choices =
      messages (record { source = source; bytes = bytes }) choices.dropped (message_in bytes)
  along (event.Turn moment) choices = turns choices.item

  -- what is left by the course, and what the outcome shows of it
  abbrev Ends : Outcome → State → Type 0
  Ends outcome after = Adds s.tables after.tables (units_lent outcome.answer)

  ends_so : (o : Outcome) (t : State) (outcome : Outcome) (after : State)
      → Adds s.tables t.tables (units_lent o.answer)
      → (let e : Ending = Some (o, t) in e) ≡ Some (outcome, after)
      → Ends outcome after
  ends_so o t outcome after adds is =
      subst (λ (e : Outcome × State). Adds s.tables e.1.tables (units_lent e.0.answer))
      (same_some (o, t) (outcome, after) is) adds

  pub asked : (task : Task) (ask : RequestedUnits) (lent : ℕ → Served) (refused : Served)
      (answer : Option Lend) (outcome : Outcome) (after : State)
      → AddsBy s.tables (Asking ask lent refused)
      → machine.with_answer s now task ask lent refused answer ≡ Some (outcome, after)
      → Ends outcome after
  asked task ask lent refused None outcome after adds is = absurd (cc is)
  asked task ask lent refused (Some (Lent units)) outcome after adds is =
      by_grant (nat_lt units ask.least) is where
        by_grant : (b : Bool) → machine.ended s now task None (Some (Lent units))
            (with_answered_pool s.tables ask (Lent units)
            (answered (granted lent refused (if b then None else Some units))))
            ≡ Some (outcome, after) → Ends outcome after
        by_grant true is = ends_so _ _ outcome after
            (record {
              settings = adds.1.settings;
              units_are = omega (arith, adds.1.units_are);
            }) is
        by_grant false is = ends_so _ _ outcome after
            (record { settings = (adds.0 units).settings; units_are = (adds.0 units).units_are }) is
  asked task ask lent refused (Some Refused) outcome after adds is =
      ends_so _ _ outcome after
      (record { settings = adds.1.settings; units_are = adds.1.units_are }) is
  asked task ask lent refused (Some Wait) outcome after adds is =
      by_wait (may_wait task.job.occasion) is where
        by_wait : (b : Bool) → machine.ended s now task None (Some Wait)
            (with_answered_pool s.tables ask Wait (if b then in_progress s.tables.config.delay
            task.request refused
            else answered refused)) ≡ Some (outcome, after) → Ends outcome after
        by_wait true is = ends_so _ _ outcome after
            (record { settings = adds.1.settings; units_are = adds.1.units_are }) is
        by_wait false is = ends_so _ _ outcome after
            (record { settings = adds.1.settings; units_are = adds.1.units_are }) is

  planned : (task : Task) (plan : Plan) (choices : Choices) (outcome : Outcome) (after : State)
      → AddsBy s.tables plan → machine.plan_ending s now task plan choices ≡ Some (outcome, after)
      → Ends outcome after
  planned task (Settled served) choices outcome after adds is = ends_so _ _ outcome after adds is
  planned task (Naming named) choices outcome after adds is = by_name choices.given is where
    by_name : (w : Option (List ℕ)) → machine.with_name s now task named w ≡ Some (outcome, after)
        → Ends outcome after
    by_name None is = absurd (cc is)
    by_name (Some id) is = ends_so _ _ outcome after (adds id) is
  planned task (Asking ask lent refused) choices outcome after adds is =
      asked task ask lent refused choices.answer outcome after adds is

  did : (what : DueItem) (outcome : Outcome) (after : State)
      → machine.course_ending s now (machine.Doing what) (choices_of outcome) ≡ Some
      (outcome, after)
      → Ends outcome after
  did (item.RegistrationOver id) outcome after is =
      ends_so _ _ outcome after (let left = has_left s.tables id in
      record { settings = left.settings; units_are = left.units_are }) is
  did (item.Interrogate id) outcome after is =
      ends_so _ _ outcome after (record { settings = refl; units_are = omega arith }) is
  did (item.Silent id) outcome after is =
      ends_so _ _ outcome after (let left = has_left s.tables id in
      record { settings = left.settings; units_are = left.units_are }) is
  did (item.Retry born) outcome after is = ends_so _ _ outcome after (nothing s.tables) is
  did (item.KeptOver born) outcome after is = ends_so _ _ outcome after (nothing s.tables) is
  did item.PoolTurn outcome after is = ends_so _ _ outcome after (nothing s.tables) is

  pub ended_by : (c : Course) (outcome : Outcome) (after : State) → AddsAlong s c
      → machine.course_ending s now c (choices_of outcome) ≡ Some (outcome, after)
      → Ends outcome after
  ended_by (machine.Ignoring cause) outcome after adds is = ends_so _ _ outcome after
      (nothing s.tables) is
  ended_by (machine.Hearing endpoint) outcome after adds is =
      ends_so _ _ outcome after (record { settings = refl; units_are = omega arith }) is
  ended_by (machine.Repeating datagram) outcome after adds is = ends_so _ _ outcome after
      (nothing s.tables) is
  ended_by (machine.Serving task) outcome after adds is = planned task task.plan
      (choices_of outcome) outcome after adds is
  ended_by (machine.Doing what) outcome after adds is = did what outcome after is
  ended_by machine.Idle outcome after adds is = ends_so _ _ outcome after (nothing s.tables) is
