-- What an event calls for as a value of the code, what may be chosen for it, and what the deed
-- owes.
use Rattle.std.specs.Prelude.{ℕ, ◌≡◌, ◌≤◌, ◌+◌, Bool, true, false, List, length, Some, Option}
use Rattle.std.specs.Prelude.{None}
use Rattle.std.specs.Option.{IsSomeAnd}
use Rattle.std.specs.FinMap.{get}
use Rattle.kept_replies.specs.Kept.{NonePasses, births, is_over}
use Rattle.ras_module.specs.declared.reply.TheConstants.Reply as reply_octets
use Rattle.ras_module.specs.declared.request.Request.{Request}
use Rattle.zone_events.specs.declared.due_item.DueItem.{DueItem}
use Rattle.zone_events.specs.declared.due_item.DueItem.TheVariants.{RegistrationOver, Retry, Silent}
use Rattle.zone_events.specs.declared.event.Event.{Event}
use Rattle.zone_events.specs.declared.outcome.IgnoredCause.TheVariants.{Busy}
use Rattle.zone_events.specs.declared.outcome.Outcome.{Outcome}
use Rattle.ras_requests.specs.declared.plan.Plan.{Plan as CodePlan}
use Rattle.ras_requests.specs.declared.plan.Plan.TheVariants as code_plan
use Rattle.ras_requests.specs.Plans.{Plan, Served, Settled, Naming, Asking}
use Rattle.ras_requests.specs.Requests.{plan_of, HasReply}
use Rattle.zone_tables.specs.Soundness.{CountsOneMore}
use Rattle.zone_tables.specs.Changes.{heard}
use Rattle.ras_requests.specs.Planned.{IsPlanOf, Renews, RequestsUnits, may_return_units_by, served}
use Rattle.ras_requests.specs.declared.plan.GrantedTime.{GrantedTime}
use Rattle.ras_requests.specs.declared.plan.Settlement.{Settlement}
use Rattle.zone_tables.specs.declared.unit_request.UnitRequest.{UnitRequest}
use Rattle.zone_tables.specs.Leaving.{AreSameButLent}
use Rattle.zone_tables.specs.Tables.{Tables}
use Rattle.ras_machine.specs.declared.course.Course as code
use Rattle.ras_machine.specs.declared.course.Course.TheVariants as course
use Rattle.ras_machine.specs.declared.course.Task as code_task
use Rattle.ras_machine.specs.declared.job.Job.{Job}
use Rattle.ras_machine.specs.declared.job.Occasion.{Occasion}
use Rattle.ras_machine.specs.declared.job.Occasion.TheVariants.{Again, Anew, First}
use Rattle.ras_machine.specs.State.{State}
use Rattle.ras_machine.specs.Soundness.{AreBornBefore, Sound}
use Rattle.ras_machine.specs.Turns.{IsDueIn, IsNothingDueIn}
use Rattle.ras_machine.specs.Machine.{Choices, Course, Ignoring, Hearing, Repeating, Serving, Doing}
use Rattle.ras_machine.specs.Machine.{Idle, at_moment, course_at}
use Rattle.ras_machine.specs.Machine.{course_ending, retry_course, serving}
use Rattle.ras_machine.specs.Steps.{HasFewOctets, IsAllowed, IsTimely, IsUnusedIn}
use Rattle.ras_machine.specs.Steps.{ask_in, choices_of, pools_after_ask}
use Rattle.ras_machine.specs.inside.Room.{IsPlaced}

-- an endpoint is heard as its request is served for the first time
abbrev pub heard_at : Tables → Occasion → ℕ → Option (List ℕ) → Tables
heard_at z (First dropped) now endpoint = heard z now endpoint
heard_at z Anew now endpoint = heard z now endpoint
heard_at z (Again born left) now endpoint = z

-- What a course comes to, before the clock and the number of steps are set.
pub record Does (old : State) (now : ℕ) (c : Course) (outcome : Outcome) (new : State)
    : Type 0 where
  pub allowed : IsAllowed old now c (choices_of outcome)
  pub makes : course_ending old now c (choices_of outcome) ≡ Some (outcome, new)
  pub pools : AreSameButLent (pools_after_ask old.tables.pools (ask_in c) outcome.answer)
      new.tables.pools
  pub counts : CountsOneMore old.tables.pools new.tables.pools
  pub births : AreBornBefore old.steps old.kept → AreBornBefore (old.steps + 1) new.kept
  pub few : HasFewOctets outcome.output

-- One step by a course: what the course comes to, with the clock at now and one step more. Beside
-- the answer of a pool that was asked, the pools' figures change only as units come back.
pub record Performs (old : State) (now : ℕ) (c : Course) (outcome : Outcome) (new : State)
    : Type 0 where
  pub allowed : IsAllowed old now c (choices_of outcome)
  pub makes : at_moment now (old.steps + 1) (course_ending old now c (choices_of outcome))
      ≡ Some (outcome, new)
  pub pools : AreSameButLent (pools_after_ask old.tables.pools (ask_in c) outcome.answer)
      new.tables.pools
  pub few : HasFewOctets outcome.output
  pub sound : Sound new

-- a request finds a place for its reply, or has its entry
abbrev pub IsPlacedIn : State → Job → Type 0
IsPlacedIn s job =
    IsPlaced (record { kept = s.kept; most = s.tables.config.kept; room = 0 }) job.key job.occasion

-- a course of the code in the words of the definition: a request that is served has a plan
abbrev pub task_course : ℕ → code_task.Task → Option Plan → Course
task_course now task None = Idle
task_course now task (Some plan) = serving task.job now task.request plan

abbrev pub course_of : State → ℕ → code.Course → Course
course_of s now (course.Ignoring cause) = Ignoring cause
course_of s now (course.Hearing response) = Hearing response.endpoint
course_of s now (course.Repeating datagram) = Repeating datagram
course_of s now (course.Serving task) = task_course now task (plan_of s.tables now task.request)
course_of s now (course.Doing item) = Doing item
course_of s now course.Idle = Idle

-- its plan is what the request comes to, and its reply has a place
pub record IsTask (s : State) (now : ℕ) (task : code_task.Task) : Type 0 where
  pub served : HasReply task.request
  pub placed : IsPlacedIn s task.job
  pub plans : IsPlanOf s.tables now task.request task.plan

-- Whether units may come back to a pool: by a change that settles a request, or as an endpoint goes
-- from all its calls. Where a pool is asked, none come back.
abbrev pub is_end_of_legs : DueItem → Bool
is_end_of_legs (RegistrationOver id) = true
is_end_of_legs (Silent id) = true
is_end_of_legs other = false

abbrev pub may_return_units_in : code.Course → Bool
may_return_units_in (course.Serving task) = may_return_units_by task.plan
may_return_units_in (course.Doing item) = is_end_of_legs item
may_return_units_in other = false

-- it can be done
abbrev pub Stands : State → ℕ → code.Course → Type 0
Stands s now (course.Repeating datagram) = length datagram.bytes ≤ reply_octets.MOST
Stands s now (course.Serving task) = IsTask s now task
Stands s now other = Unit {0}

-- a course of the code is this one, and can be done
pub record CallsFor (s : State) (now : ℕ) (c : Course) (called : code.Course) : Type 0 where
  pub is : course_of s now called ≡ c
  pub stands : Stands s now called

-- what was chosen for it so far may be chosen: the entry that is dropped, and the item
abbrev pub IsReady : State → ℕ → Course → Type 0
IsReady s now (Ignoring Busy) = NonePasses (is_over now) s.kept
IsReady s now (Ignoring other) = Unit {0}
IsReady s now (Hearing endpoint) = Unit {0}
IsReady s now (Repeating datagram) = Unit {0}
IsReady s now (Serving task) = IsTimely s now task.job.occasion
IsReady s now (Doing item) = IsDueIn s now item
IsReady s now Idle = IsNothingDueIn s now

-- the entry that is dropped, and the item that is done, with nothing else
abbrev pub chosen : Option ℕ → Option DueItem → Choices
chosen dropped item = record { given = None; answer = None; dropped = dropped; item = item }

-- a course of the code is what the event calls for, by choices that may be made
pub record IsChosen (s : State) (now : ℕ) (event : Event) (called : code.Course) : Type 0 where
  pub dropped : Option ℕ
  pub item : Option DueItem
  pub calls : CallsFor s now (course_at s now event (chosen dropped item)) called
  pub ready : IsReady s now (course_at s now event (chosen dropped item))

-- an unused identifier is handed out, if one is called for
abbrev pub MayBeGiven : State → CodePlan → Option (List ℕ) → Type 0
MayBeGiven s (code_plan.Settled settlement) given = Unit {0}
MayBeGiven s (code_plan.Renewing time) given = Unit {0}
MayBeGiven s (code_plan.Naming newcomer) given = IsSomeAnd given (IsUnusedIn s)
MayBeGiven s (code_plan.Asking unit_request) given = Unit {0}

abbrev pub MayBeNamed : State → code.Course → Option (List ℕ) → Type 0
MayBeNamed s (course.Serving task) given = MayBeGiven s task.plan given
MayBeNamed s other given = Unit {0}

-- the way in which a request is served by a plan, if no pool is asked, and the identifier that is
-- called for is handed out
abbrev pub resolved : Plan → Option (List ℕ) → Option Served
resolved (Settled served) None = Some served
resolved (Settled served) (Some id) = None
resolved (Naming named) None = None
resolved (Naming named) (Some id) = Some (named id)
resolved (Asking ask lent refused) given = None

-- a settlement is carried out, of whichever plan it is, with the identifier that was handed out
abbrev pub CarriesOut : State → ℕ → Job → Request → Settlement → Option (List ℕ) → Outcome → State
    → Type 0
CarriesOut old now job request settlement given outcome new = (plan : Plan)
    → resolved plan given ≡ Some (served old.tables now request settlement)
    → Does old now (serving job now request plan) outcome new

-- a registration is kept alive for this time by a plan that says so
abbrev pub KeepsAlive : State → ℕ → Job → Request → GrantedTime → Outcome → State → Type 0
KeepsAlive old now job request time outcome new = (plan : Plan)
    → Renews old.tables now request plan time
    → Does old now (serving job now request plan) outcome new

-- a request is served by a plan in which these units are requested
abbrev pub ServesByUnits : State → ℕ → Job → Request → UnitRequest → Outcome → State → Type 0
ServesByUnits old now job request unit_request outcome new = (plan : Plan)
    → RequestsUnits old.tables request plan unit_request
    → Does old now (serving job now request plan) outcome new

-- this request may be served again, and that is what is to be done
pub record IsAgain (s : State) (now born : ℕ) (job : Job) (request : Request) : Type 0 where
  pub placed : IsPlacedIn s job
  pub served : HasReply request
  pub course : (plan : Plan) → plan_of s.tables now request ≡ Some plan
      → retry_course s now born (get (births s.kept) born) ≡ serving job now request plan

-- or nothing is
abbrev pub IsWaitingRequest : State → ℕ → ℕ → Option (Job × Request) → Type 0
IsWaitingRequest s now born None =
    retry_course s now born (get (births s.kept) born) ≡ Doing (Retry born)
IsWaitingRequest s now born (Some found) = IsAgain s now born found.0 found.1
