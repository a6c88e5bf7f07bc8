-- The identifier that a step hands out is the one that its reply tells; and after the step the
-- registrations can be told as before it.
use Rattle.std.proofs.Common.{◌≡◌, ◌+◌, ℕ, Bool, true, false, List, refl, sym, ap, ◌∙◌, subst}
use Rattle.std.proofs.Common.{Some, None}
use Rattle.std.specs.Prelude.{IfSome, Option, Result, Ok, Err, if◌then◌else◌, is_some}
use Rattle.std.specs.Prelude.{length, nat_lt}
use Rattle.std.specs.FinMap.{get}
use Rattle.keyed.proofs.Decide.{same_some}
use Rattle.ras_module.specs.declared.address.Address.{Address}
use Rattle.ras_module.specs.declared.reply.Reply.{Reply}
use Rattle.ras_module.specs.declared.reply.Reply.TheVariants.{Rcf}
use Rattle.ras_module.specs.declared.request.Request.{Request}
use Rattle.ras_module.specs.declared.request.TheConstants.Request as request_octets
use Rattle.kept_replies.specs.declared.entry.KeptEntry.{KeptEntry}
use Rattle.kept_replies.specs.declared.entry.KeptState.{KeptState}
use Rattle.kept_replies.specs.declared.entry.KeptState.TheVariants.{Done, Pending}
use Rattle.kept_replies.specs.declared.key.KeptKey.{KeptKey}
use Rattle.kept_replies.specs.Kept.{births}
use Rattle.kept_replies.proofs.Births.{births-has}
use Rattle.pools.specs.declared.interface.Lend.{Lend}
use Rattle.ras_grammar.specs.declared.fault.ReadFault.{ReadFault}
use Rattle.ras_reading.specs.Messages.{message_reading}
use Rattle.ras_writing.specs.Replies.{encoding_of}
use Rattle.zone_events.specs.declared.due_item.DueItem.{DueItem}
use Rattle.zone_events.specs.declared.due_item.DueItem.TheVariants as item
use Rattle.zone_events.specs.declared.event.Event.{Event}
use Rattle.zone_events.specs.declared.event.Event.TheVariants as event
use Rattle.zone_events.specs.declared.outcome.Datagram.{Datagram}
use Rattle.zone_events.specs.declared.outcome.IgnoredCause.TheVariants.{UnknownEndpoint}
use Rattle.zone_events.specs.declared.outcome.Outcome.{Outcome}
use Rattle.zone_tables.specs.Pools.{RequestedUnits, grant_of}
use Rattle.ras_requests.specs.Plans.{Plan, Served, Settled, Naming, Asking}
use Rattle.ras_requests.specs.Requests.{endpoint_of, plan_of}
use Rattle.ras_machine.specs.declared.job.Job.{Job}
use Rattle.ras_machine.specs.declared.job.Occasion.{Occasion}
use Rattle.ras_machine.specs.declared.job.Occasion.TheVariants.{Again, Anew, First}
use Rattle.ras_machine.specs.declared.prepared.Message.{Message}
use Rattle.ras_machine.specs.declared.prepared.Message.TheVariants as message
use Rattle.ras_machine.specs.Keeping.{Progress, Task, answered, by_answer, granted, in_progress}
use Rattle.ras_machine.specs.Keeping.{waits, with_answered_pool}
use Rattle.ras_machine.specs.Machine as machine
use Rattle.ras_machine.specs.Machine.{Choices, Course, Ending, Place, at_moment, course}
use Rattle.ras_machine.specs.Machine.{course_ending, moment_of, most_steps}
use Rattle.ras_machine.specs.Prepared.{message_by, message_in}
use Rattle.ras_machine.specs.Soundness.{Sound, WaitsInProgress}
use Rattle.registrations.specs.declared.registration.Registration.{Registration}
use Rattle.ras_machine.specs.State.{State}
use Rattle.ras_machine.specs.Steps.{IsAllowed, IsUnusedIn, MayChoose, Step, choices_of}
use Rattle.record_audit.specs.Records.{handed_out, newcomer_in, unless_live}
use Rattle.record_laws.specs.WholeRecords.{HasCharacters}
use Rattle.record_laws.proofs.ReadRegistrations.{request_read}
use Rattle.record_laws.proofs.ToldConfirms.{confirm_tells, others_tell_none}
use Rattle.record_laws.proofs.ToldPlans.{HandsOut, HandsOutNone, IsNewServed, IsOldServed}
use Rattle.record_laws.proofs.ToldPlans.{IsToldPlan, NamesNone, plan_is_told, told_at}
use Rattle.record_laws.proofs.ToldPlans.{waiting_names, waiting_read}
use Rattle.record_laws.proofs.ToldTables.{HasTellable, tables_asked, tables_heard}
use Rattle.record_laws.proofs.ToldTables.{tables_without_endpoint, tables_without_silent}

-- ---- what a reply tells

told_none : (s : State) (to : Address) (reply : Reply) → HandsOutNone s.tables.live reply
    → newcomer_in s (Some (record { to = to; bytes = encoding_of reply })) ≡ None
told_none s to (Rcf confirm) h =
    ap (unless_live s) (confirm_tells confirm h.0)
    ∙ ap (λ (b : Bool). if b then None else Some confirm.endpoint) h.1
told_none s to other h = ap (unless_live s) (others_tell_none other tt)

told_new : (s : State) (to : Address) (id : List ℕ) (reply : Reply)
    → get s.tables.live id ≡ None → HandsOut id reply
    → newcomer_in s (Some (record { to = to; bytes = encoding_of reply })) ≡ Some id
told_new s to id (Rcf confirm) new h =
    ap (unless_live s) (confirm_tells confirm h.0 ∙ ap Some h.1)
    ∙ ap (λ (w : Option Registration). if is_some w then None else Some id) new
told_new s to id other new h = absurd h

-- ---- what a course comes to

-- what a step leaves: its outcome hands out what is told, and the registrations can be told
pub record IsToldEnd (s : State) (outcome : Outcome) (after : State) : Type 0 where
  pub told : handed_out s outcome.note outcome.output ≡ outcome.given
  pub tables_are : HasTellable after.tables

abbrev IsAgain : Occasion → Type 0
IsAgain (Again born left) = Unit {0}
IsAgain other = ⊥

-- a request that is served: its plan, and none that hands out if it is served again
abbrev IsToldCourse : State → Course → Type 0
IsToldCourse s (machine.Serving task) =
    IsToldPlan s.tables task.plan × (IsAgain task.job.occasion → NamesNone task.plan)
IsToldCourse s other = Unit {0}

-- what is told as a request is served again is no identifier that was handed out
noted_told : (s : State) (occasion : Occasion) (output : Option Datagram)
    (given : Option (List ℕ)) → (IsAgain occasion → given ≡ None) → newcomer_in s output ≡ given
    → handed_out s (machine.note_at occasion) output ≡ given
noted_told s (First dropped) output given again told = told
noted_told s Anew output given again told = told
noted_told s (Again born left) output given again told = sym (again tt)

module _ (s : State) (has : HasTellable s.tables) (now : ℕ) (outcome : Outcome) (mid : State) where
  -- the state that an outcome comes with
  ends_so : (o : Outcome) (t : State) → IsToldEnd s o t
      → (let e : Ending = Some (o, t) in e) ≡ Some (outcome, mid) → IsToldEnd s outcome mid
  ends_so o t so is =
      subst (λ (e : Outcome × State). IsToldEnd s e.0 e.1) (same_some (o, t) (outcome, mid) is) so

  served_old : (task : Task) (answer : Option Lend) (p : Progress)
      → IsOldServed s.tables p.served
      → machine.ended s now task None answer p ≡ Some (outcome, mid) → IsToldEnd s outcome mid
  served_old task answer p old is =
      ends_so _ _ (record {
        told = noted_told s task.job.occasion _ None (λ again. refl)
            (told_none s task.job.key.source p.served.reply old.reply_is);
        tables_are = old.tables_are;
      }) is

  served_new : (task : Task) (id : List ℕ) (p : Progress) → (IsAgain task.job.occasion → ⊥)
      → get s.tables.live id ≡ None → IsNewServed id p.served
      → machine.ended s now task (Some id) None p ≡ Some (outcome, mid)
      → IsToldEnd s outcome mid
  served_new task id p first new fits is =
      ends_so _ _ (record {
        told = noted_told s task.job.occasion _ (Some id) (λ again. absurd (first again))
            (told_new s task.job.key.source id p.served.reply new fits.reply_is);
        tables_are = fits.tables_are;
      }) is

  -- a pool was asked, whatever it answered
  asked_old : (task : Task) (ask : RequestedUnits) (lent : ℕ → Served) (refused : Served)
      (answer : Lend) (w : Bool) (grant : Option ℕ)
      → IsToldPlan s.tables (Asking ask lent refused)
      → IsOldServed s.tables (with_answered_pool s.tables ask answer
      (if w
      then in_progress s.tables.config.delay task.request refused
      else answered (granted lent refused grant))).served
  asked_old task ask lent refused answer true grant is = record {
    reply_is = tt;
    tables_are = record {
      answered = (is.1).tables_are.answered;
      each = (is.1).tables_are.each;
    };
  }
  asked_old task ask lent refused answer false None is = record {
    reply_is = (is.1).reply_is;
    tables_are = record {
      answered = (is.1).tables_are.answered;
      each = (is.1).tables_are.each;
    };
  }
  asked_old task ask lent refused answer false (Some units) is = record {
    reply_is = (is.0 units).reply_is;
    tables_are = record {
      answered = (is.0 units).tables_are.answered;
      each = (is.0 units).tables_are.each;
    };
  }

  planned : (task : Task) (plan : Plan) (choices : Choices) → IsToldPlan s.tables plan
      → (IsAgain task.job.occasion → NamesNone plan) → MayChoose s plan choices
      → HasCharacters choices.given
      → machine.plan_ending s now task plan choices ≡ Some (outcome, mid)
      → IsToldEnd s outcome mid
  planned task (Settled served) choices told again may fits is =
      served_old task None (answered served) told is
  planned task (Naming named) choices told again may fits is =
      by_name choices.given may fits is where
        by_name : (given : Option (List ℕ)) → IfSome given (IsUnusedIn s) → HasCharacters given
            → machine.with_name s now task named given ≡ Some (outcome, mid)
            → IsToldEnd s outcome mid
        by_name None unused fits is = absurd (cc is)
        by_name (Some id) unused fits is =
            let text = (unused.unused).text in
            served_new task id (answered (named id)) again (unused.unused).not_live
            (told id (record { some = text.some; few = text.few; fit = fits })) is
  planned task (Asking ask lent refused) choices told again may fits is =
      by_lend choices.answer is where
        by_lend : (answer : Option Lend)
            → machine.with_answer s now task ask lent refused answer ≡ Some (outcome, mid)
            → IsToldEnd s outcome mid
        by_lend None is = absurd (cc is)
        by_lend (Some answer) is =
            served_old task (Some answer)
            (with_answered_pool s.tables ask answer
            (by_answer s.tables.config.delay task ask lent refused answer))
            (asked_old task ask lent refused answer (waits task.job.occasion answer)
            (grant_of ask.least answer) told) is

  done : (what : DueItem) (choices : Choices)
      → course_ending s now (machine.Doing what) choices ≡ Some (outcome, mid)
      → IsToldEnd s outcome mid
  done (item.RegistrationOver id) choices is =
      ends_so _ _ (record {
        told = refl;
        tables_are = tables_without_endpoint s.tables has id;
      }) is
  done (item.Interrogate id) choices is =
      ends_so _ _ (record { told = refl; tables_are = tables_asked s.tables has now id }) is
  done (item.Silent id) choices is =
      ends_so _ _ (record {
        told = refl;
        tables_are = tables_without_silent s.tables has id;
      }) is
  done (item.Retry born) choices is = ends_so _ _ (record { told = refl; tables_are = has }) is
  done (item.KeptOver born) choices is = ends_so _ _ (record { told = refl; tables_are = has }) is
  done item.PoolTurn choices is = ends_so _ _ (record { told = refl; tables_are = has }) is

  ended : (c : Course) (choices : Choices) → IsToldCourse s c → IsAllowed s now c choices
      → HasCharacters choices.given → course_ending s now c choices ≡ Some (outcome, mid)
      → IsToldEnd s outcome mid
  ended (machine.Ignoring cause) choices told allowed fits is =
      ends_so _ _ (record { told = refl; tables_are = has }) is
  ended (machine.Hearing endpoint) choices told allowed fits is =
      ends_so _ _ (record {
        told = refl;
        tables_are = tables_heard s.tables has now endpoint;
      }) is
  ended (machine.Repeating datagram) choices told allowed fits is =
      ends_so _ _ (record { told = refl; tables_are = has }) is
  ended (machine.Serving task) choices told allowed fits is =
      planned task task.plan choices told.0 told.1 allowed.1 fits is
  ended (machine.Doing what) choices told allowed fits is = done what choices is
  ended machine.Idle choices told allowed fits is =
      ends_so _ _ (record { told = refl; tables_are = has }) is

-- ---- the course of an event

-- what octets are read as
read_by : (r : Result (Option Request) ReadFault) (request : Request)
    → message_by r ≡ message.Request request → r ≡ Ok (Some request)
read_by (Err fault) request is = absurd (cc is)
read_by (Ok None) request is = absurd (cc is)
read_by (Ok (Some other)) request is = ap (λ (q : Request). Ok (Some q)) (same other request is)
  where
    same : (a b : Request)
        → (let m : Message = message.Request a in m) ≡ message.Request b → a ≡ b
    same a b e = cc e

read_in : (bytes : List ℕ) (request : Request)
    → message_in bytes ≡ Some (message.Request request)
    → message_reading bytes ≡ Ok (Some request)
read_in bytes request is = by_test (nat_lt request_octets.MOST (length bytes)) is where
  by_test : (b : Bool)
      → (if b then None else Some (message_by (message_reading bytes)))
      ≡ Some (message.Request request) → message_reading bytes ≡ Ok (Some request)
  by_test true is = absurd (cc is)
  by_test false is =
      read_by (message_reading bytes) request (same_some _ (message.Request request) is)

module _ (s : State) (sound : Sound s) (has : HasTellable s.tables) (now : ℕ) where
  -- a request that is read is served by its plan
  serves : (job : Job) (request : Request) (plan : Plan) → (IsAgain job.occasion → ⊥)
      → IsToldPlan s.tables plan → IsToldCourse s (machine.serving job now request plan)
  serves job request plan first is = (
    told_at s.tables job.occasion now (endpoint_of request) plan is,
    λ again. absurd (first again),
  )

  responds : (endpoint : Option (List ℕ)) → IsToldCourse s (machine.response_course s endpoint)
  responds None = tt
  responds (Some endpoint) = by_test (is_some (get s.tables.live endpoint)) where
    by_test : (b : Bool)
        → IsToldCourse s (if b then machine.Hearing endpoint else machine.Ignoring UnknownEndpoint)
    by_test true = tt
    by_test false = tt

  requests : (key : KeptKey) (request : Request) (w : Option Plan) (place : Place)
      (dropped : Option ℕ) → IfSome w (IsToldPlan s.tables)
      → IsToldCourse s (machine.request_case s now key request w place dropped)
  requests key request None place dropped is = responds (endpoint_of request)
  requests key request (Some plan) (machine.Answered reply) dropped is = tt
  requests key request (Some plan) machine.Own dropped is =
      serves (machine.anew key) request plan (λ again. again) is
  requests key request (Some plan) machine.Free dropped is =
      serves (machine.first key None) request plan (λ again. again) is
  requests key request (Some plan) machine.Full None is = tt
  requests key request (Some plan) machine.Full (Some born) is =
      serves (machine.first key (Some born)) request plan (λ again. again) is

  messages : (key : KeptKey) (dropped : Option ℕ) (m : Option Message)
      → message_in key.bytes ≡ m → IsToldCourse s (machine.message_course s now key dropped m)
  messages key dropped None read = tt
  messages key dropped (Some message.Unreadable) read = tt
  messages key dropped (Some message.NotServed) read = tt
  messages key dropped (Some (message.Request request)) read =
      requests key request (plan_of s.tables now request) (machine.place_of s now key) dropped
      (plan_is_told s.tables has (sound.tables).endpoints now request
      (request_read key.bytes request (read_in key.bytes request read)))

  -- a request that waits
  agains : (key : KeptKey) (born : ℕ) (request : Request) (left : ℕ) (w : Option Plan)
      → IfSome w (IsToldPlan s.tables) → IfSome w NamesNone
      → IsToldCourse s (machine.again_course now key born request left w)
  agains key born request left None is none = tt
  agains key born request left (Some plan) is none = (is, λ again. none)

  retries : (key : KeptKey) (born : ℕ) (entry : KeptEntry) (state : KeptState)
      → get s.kept key ≡ Some entry → entry.state ≡ state
      → IsToldCourse s (machine.retry_in_course s now key born state)
  retries key born entry (Done reply until) there is = tt
  retries key born entry (Pending request reply retry left) there is =
      let may = (subst (WaitsInProgress s.tables.config.delay) is
      (sound.waiting key entry there)).0 in
      agains key born request left (plan_of s.tables now request)
      (plan_is_told s.tables has (sound.tables).endpoints now request (waiting_read request may))
      (waiting_names s.tables now request may)

  waited : (born : ℕ) (w : Option (KeptKey × KeptEntry)) → get (births s.kept) born ≡ w
      → IsToldCourse s (machine.retry_course s now born w)
  waited born None is = tt
  waited born (Some row) is =
      retries row.0 born row.1 row.1.state (births-has s.kept sound.births born row is).0 refl

  turns : (w : Option DueItem) → IsToldCourse s (machine.turn_course s now w)
  turns None = tt
  turns (Some (item.RegistrationOver id)) = tt
  turns (Some (item.Interrogate id)) = tt
  turns (Some (item.Silent id)) = tt
  turns (Some (item.Retry born)) = waited born (get (births s.kept) born) refl
  turns (Some (item.KeptOver born)) = tt
  turns (Some item.PoolTurn) = tt

  along : (what : Event) (choices : Choices)
      → IsToldCourse s (machine.course_at s now what choices)
  along (event.Datagram source bytes moment) choices =
      messages (record { source = source; bytes = bytes }) choices.dropped (message_in bytes) refl
  along (event.Turn moment) choices = turns choices.item

-- ---- a step

module _ (s : State) (now steps : ℕ) (outcome : Outcome) (after : State) where
  stamped : (e : Ending)
      → ((mid : State) → e ≡ Some (outcome, mid) → IsToldEnd s outcome mid)
      → at_moment now steps e ≡ Some (outcome, after) → IsToldEnd s outcome after
  stamped None ends is = absurd (cc is)
  stamped (Some e) ends is =
      let same = same_some (e.0, record e.1 { clock = now; steps = steps }) (outcome, after) is in
      let end = ends e.1 (ap (λ (x : Outcome × State). Some (x.0, e.1)) same) in record {
        told = end.told;
        tables_are = subst (λ (x : Outcome × State). HasTellable (x.1).tables) same
            end.tables_are;
      }

  made : (b : Bool) (e : Ending)
      → ((mid : State) → e ≡ Some (outcome, mid) → IsToldEnd s outcome mid)
      → (if b then at_moment now steps e else None) ≡ Some (outcome, after)
      → IsToldEnd s outcome after
  made true e ends is = stamped e ends is
  made false e ends is = absurd (cc is)

pub step_is_told : (s : State) (event : Event) (outcome : Outcome) (after : State) → Sound s
    → HasTellable s.tables → HasCharacters outcome.given → Step s event outcome after
    → IsToldEnd s outcome after
step_is_told s event outcome after sound has fits step =
    let now = moment_of s event in
    let choices = choices_of outcome in
    let c = course s event choices in
    made s now (s.steps + 1) outcome after (nat_lt s.steps most_steps)
    (course_ending s now c choices)
    (λ mid is. ended s has now outcome mid c choices (along s sound has now event choices)
    step.allowed fits is)
    step.makes
