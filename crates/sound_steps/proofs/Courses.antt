-- What an event calls for in a sound state can be served so that sound tables are left, and
-- its reply finds a place.
use Rattle.std.proofs.Common.{◌≡◌, ◌<◌, ◌==◌, ℕ, Bool, true, false, List, refl, sym}
use Rattle.std.proofs.Common.{ap, subst, Some, None, arith}
use Rattle.std.specs.Prelude.{IfSome, IsSome, Option, if◌then◌else◌, is_some}
use Rattle.std.specs.Option.{IsSomeAnd}
use Rattle.std.specs.FinMap.{get, len}
use Rattle.ras_module.specs.declared.request.Request.{Request}
use Rattle.kept_replies.specs.declared.entry.KeptEntry.{KeptEntry}
use Rattle.kept_replies.specs.declared.entry.KeptState.{KeptState}
use Rattle.kept_replies.specs.declared.entry.KeptState.TheVariants.{Done, Pending}
use Rattle.kept_replies.specs.declared.key.KeptKey.{KeptKey}
use Rattle.kept_replies.specs.Kept.{births, left_in, reply_in}
use Rattle.kept_replies.proofs.Births.{births-has}
use Rattle.zone_events.specs.declared.due_item.DueItem.{DueItem}
use Rattle.zone_events.specs.declared.due_item.DueItem.TheVariants as item
use Rattle.zone_events.specs.declared.event.Event.{Event}
use Rattle.zone_events.specs.declared.event.Event.TheVariants as event
use Rattle.zone_events.specs.declared.outcome.IgnoredCause.TheVariants.{UnknownEndpoint}
use Rattle.ras_requests.specs.Plans.{Plan}
use Rattle.ras_requests.specs.Requests.{endpoint_of, plan_of}
use Rattle.ras_machine.specs.declared.job.Job.{Job}
use Rattle.ras_machine.specs.declared.prepared.Message.{Message}
use Rattle.ras_machine.specs.declared.prepared.Message.TheVariants as message
use Rattle.ras_machine.specs.Courses.{IsPlacedIn}
use Rattle.ras_machine.specs.Keeping.{Task, is_repeat}
use Rattle.ras_machine.specs.Machine as machine
use Rattle.ras_machine.specs.Machine.{Choices, Course, Place}
use Rattle.ras_machine.specs.Prepared.{message_in}
use Rattle.ras_machine.specs.Soundness.{MayRequestUnits, Sound}
use Rattle.ras_machine.specs.State.{State}
use Rattle.ras_machine.specs.Steps.{IsTimely}
use Rattle.ras_machine.proofs.Dropping.{fits_of}
use Rattle.ras_machine.proofs.PlansFor.{IsPlanFor, is_plan, is_plan_at}
use Rattle.sound_steps.proofs.Plans.{plan_is_sound}
use Rattle.sound_steps.proofs.Serving.{SoundBy, sound_at}
use Rattle.sound_steps.proofs.Tests.{differ, equal}

-- A request that is served leaves sound tables, keeps the settings, and asks a pool only if it
-- may; and its reply finds a place, or it has its entry.
pub record IsSoundTask (s : State) (now : ℕ) (task : Task) : Type 0 where
  pub tables : SoundBy s.tables task.plan
  pub fits : IsPlanFor s.tables (MayRequestUnits task.request) task.plan
  pub placed : IsTimely s now task.job.occasion → IsPlacedIn s task.job

-- if the course serves a request, that holds of it
abbrev pub SoundAlong : State → ℕ → Course → Type 0
SoundAlong s now (machine.Serving task) = IsSoundTask s now task
SoundAlong s now other = Unit {0}

-- what a plan has to come to
pub record IsSoundPlan (s : State) (request : Request) (plan : Plan) : Type 0 where
  pub tables : SoundBy s.tables plan
  pub fits : IsPlanFor s.tables (MayRequestUnits request) plan

module _ (s : State) (sound : Sound s) (now : ℕ) where
  its_plan : (request : Request) → IfSome (plan_of s.tables now request) (IsSoundPlan s request)
  its_plan request =
      both (plan_of s.tables now request) (plan_is_sound s.tables sound.tables now request)
      (is_plan s.tables now request) where
        both : (w : Option Plan) → IfSome w (SoundBy s.tables)
            → IfSome w (IsPlanFor s.tables (MayRequestUnits request))
            → IfSome w (IsSoundPlan s request)
        both None is fits = tt
        both (Some plan) is fits = record { tables = is; fits = fits }

  -- a request is served by its plan, on an occasion
  serves : (job : Job) (request : Request) (plan : Plan) → IsSoundPlan s request plan
      → (IsTimely s now job.occasion → IsPlacedIn s job)
      → SoundAlong s now (machine.serving job now request plan)
  serves job request plan is placed = record {
    tables = sound_at s.tables job.occasion now (endpoint_of request) plan is.tables;
    fits = is_plan_at s.tables (MayRequestUnits request) job.occasion now
        (endpoint_of request) plan is.fits;
    placed = placed;
  }

  -- a place is free: the datagram has no entry
  free_place : (key : KeptKey) → machine.place_of s now key ≡ machine.Free
      → (get s.kept key ≡ None) × (len s.kept < s.tables.config.kept)
  free_place key free = by_entry (get s.kept key) refl free where
    by_repeat : {P : Type 0} (b : Bool) (entry : KeptEntry)
        → (if b then machine.Answered (reply_in entry.state) else machine.Own) ≡ machine.Free
        → P
    by_repeat true entry is = absurd (cc is)
    by_repeat false entry is = absurd (cc is)

    by_test : (b : Bool) → (len s.kept == s.tables.config.kept) ≡ b
        → (if b then machine.Full else machine.Free) ≡ machine.Free
        → len s.kept < s.tables.config.kept
    by_test true is place = absurd (cc place)
    by_test false is place =
        omega (
          arith,
          sound.few_kept,
          differ (len s.kept) s.tables.config.kept is,
        )

    by_entry : (w : Option KeptEntry) → get s.kept key ≡ w
        → machine.place_by s now w ≡ machine.Free
        → (get s.kept key ≡ None) × (len s.kept < s.tables.config.kept)
    by_entry None is place = (is, by_test (len s.kept == s.tables.config.kept) refl place)
    by_entry (Some entry) is place = by_repeat (is_repeat s now entry) entry place

  -- the datagram has an entry of its own, which doesn't answer it
  own_place : (key : KeptKey) → machine.place_of s now key ≡ machine.Own
      → IsSome (get s.kept key)
  own_place key own = by_entry (get s.kept key) refl own where
    by_test : {P : Type 0} (b : Bool) → (if b then machine.Full else machine.Free) ≡ machine.Own
        → P
    by_test true is = absurd (cc is)
    by_test false is = absurd (cc is)

    by_entry : (w : Option KeptEntry) → get s.kept key ≡ w
        → machine.place_by s now w ≡ machine.Own → IsSome w
    by_entry None is place = by_test (len s.kept == s.tables.config.kept) place
    by_entry (Some entry) is place = refl

  -- all places are taken, by others than this datagram
  full_place : (key : KeptKey) → machine.place_of s now key ≡ machine.Full
      → (get s.kept key ≡ None) × (len s.kept ≡ s.tables.config.kept)
  full_place key full = by_entry (get s.kept key) refl full where
    by_repeat : {P : Type 0} (b : Bool) (entry : KeptEntry)
        → (if b then machine.Answered (reply_in entry.state) else machine.Own) ≡ machine.Full
        → P
    by_repeat true entry is = absurd (cc is)
    by_repeat false entry is = absurd (cc is)

    by_test : (b : Bool) → (len s.kept == s.tables.config.kept) ≡ b
        → (if b then machine.Full else machine.Free) ≡ machine.Full
        → len s.kept ≡ s.tables.config.kept
    by_test true is place = equal (len s.kept) s.tables.config.kept is
    by_test false is place = absurd (cc place)

    by_entry : (w : Option KeptEntry) → get s.kept key ≡ w
        → machine.place_by s now w ≡ machine.Full
        → (get s.kept key ≡ None) × (len s.kept ≡ s.tables.config.kept)
    by_entry None is place = (is, by_test (len s.kept == s.tables.config.kept) refl place)
    by_entry (Some entry) is place = by_repeat (is_repeat s now entry) entry place

  -- an InfoRequestResponse is no request that is served
  responds : (endpoint : Option (List ℕ)) → SoundAlong s now (machine.response_course s endpoint)
  responds None = tt
  responds (Some endpoint) = by_test (is_some (get s.tables.live endpoint)) where
    by_test : (b : Bool) → SoundAlong s now
        (if b then machine.Hearing endpoint else machine.Ignoring UnknownEndpoint)
    by_test true = tt
    by_test false = tt

  -- a request, by the place of its reply
  requests : (key : KeptKey) (request : Request) (w : Option Plan) (place : Place)
      (dropped : Option ℕ) → machine.place_of s now key ≡ place
      → IfSome w (IsSoundPlan s request)
      → SoundAlong s now (machine.request_case s now key request w place dropped)
  requests key request None place dropped at is = responds (endpoint_of request)
  requests key request (Some plan) (machine.Answered reply) dropped at is = tt
  requests key request (Some plan) machine.Own dropped at is =
      serves (machine.anew key) request plan is (λ timely. own_place key at)
  requests key request (Some plan) machine.Free dropped at is =
      serves (machine.first key None) request plan is (λ timely. free_place key at)
  requests key request (Some plan) machine.Full None at is = tt
  requests key request (Some plan) machine.Full (Some born) at is =
      serves (machine.first key (Some born)) request plan is
      (λ over. (
        (full_place key at).0,
        fits_of (record { kept = s.kept; most = s.tables.config.kept; room = 0 }) now born
            sound.births (full_place key at).1 over,
      ))

  -- a datagram, by what it is read as
  messages : (key : KeptKey) (dropped : Option ℕ) (m : Option Message)
      → SoundAlong s now (machine.message_course s now key dropped m)
  messages key dropped None = tt
  messages key dropped (Some message.Unreadable) = tt
  messages key dropped (Some message.NotServed) = tt
  messages key dropped (Some (message.Request request)) =
      requests key request (plan_of s.tables now request) (machine.place_of s now key) dropped
      refl (its_plan request)

  -- a request that waits is served again, and has its entry
  agains : (key : KeptKey) (born : ℕ) (request : Request) (left : ℕ) (w : Option Plan)
      → IsPlacedIn s (machine.again key born left) → IfSome w (IsSoundPlan s request)
      → SoundAlong s now (machine.again_course now key born request left w)
  agains key born request left None placed is = tt
  agains key born request left (Some plan) placed is =
      serves (machine.again key born left) request plan is (λ due. placed)

  -- the entry of a request that waits is there
  retries : (key : KeptKey) (born : ℕ) (entry : KeptEntry) (state : KeptState)
      → get s.kept key ≡ Some entry → entry.state ≡ state
      → SoundAlong s now (machine.retry_in_course s now key born state)
  retries key born entry (Done reply until) there is = tt
  retries key born entry (Pending request reply retry left) there is =
      agains key born request left (plan_of s.tables now request)
      (subst (λ (w : Option KeptEntry). IsSomeAnd w (λ entry. left_in entry.state ≡ left))
      (sym there) (ap left_in is)) (its_plan request)

  -- the entry is found by its birth
  waited : (born : ℕ) (w : Option (KeptKey × KeptEntry)) → get (births s.kept) born ≡ w
      → SoundAlong s now (machine.retry_course s now born w)
  waited born None is = tt
  waited born (Some row) is =
      retries row.0 born row.1 row.1.state (births-has s.kept sound.births born row is).0 refl

  -- a turn, by the item that is due
  turns : (w : Option DueItem) → SoundAlong s now (machine.turn_course s now w)
  turns None = tt
  turns (Some (item.RegistrationOver id)) = tt
  turns (Some (item.Interrogate id)) = tt
  turns (Some (item.Silent id)) = tt
  turns (Some (item.Retry born)) = waited born (get (births s.kept) born) refl
  turns (Some (item.KeptOver born)) = tt
  turns (Some item.PoolTurn) = tt

  -- so it is of each event
  pub along : (what : Event) (choices : Choices)
      → SoundAlong s now (machine.course_at s now what choices)
  along (event.Datagram source bytes moment) choices =
      messages (record { source = source; bytes = bytes }) choices.dropped (message_in bytes)
  along (event.Turn moment) choices = turns choices.item
