-- Steps of the machine.
use Rattle.std.specs.Prelude.{ℕ, ◌≡◌, ◌≤◌, List, length, Some, Option, None, IfSome}
use Rattle.ras_module.specs.declared.reply.TheConstants.Reply as reply_octets
use Rattle.pools.specs.declared.interface.Figures.{Figures}
use Rattle.pools.specs.declared.interface.Lend.{Lend}
use Rattle.pools.specs.Account.{IsAnswer}
use Rattle.kept_replies.specs.Kept.{NonePasses, Passes, is_over}
use Rattle.zone_events.specs.declared.due_item.DueItem.{DueItem}
use Rattle.zone_events.specs.declared.due_item.DueItem.TheVariants.{Retry}
use Rattle.zone_events.specs.declared.event.Event.{Event}
use Rattle.ras_machine.specs.declared.job.Occasion.{Occasion}
use Rattle.ras_machine.specs.declared.job.Occasion.TheVariants.{Again, Anew, First}
use Rattle.zone_events.specs.declared.outcome.Datagram.{Datagram}
use Rattle.zone_events.specs.declared.outcome.IgnoredCause.TheVariants.{Busy}
use Rattle.zone_events.specs.declared.outcome.Note.{Note}
use Rattle.zone_events.specs.declared.outcome.Note.TheVariants as note
use Rattle.zone_events.specs.declared.outcome.Outcome.{Outcome}
use Rattle.ras_machine.specs.State.{State}
use Rattle.zone_tables.specs.Pools.{RequestedUnits, figures_at, pools_after_answer}
use Rattle.ras_requests.specs.Plans.{Plan, Settled, Naming, Asking}
use Rattle.ras_machine.specs.Unused.{IsUnusedFor}
use Rattle.ras_machine.specs.Turns.{IsDueIn, IsNothingDueIn}
use Rattle.ras_machine.specs.Machine.{Choices, Course, Ignoring, Hearing, Repeating, Serving, Doing}
use Rattle.ras_machine.specs.Machine.{Idle, course, machine, moment_of}

-- the item that was done; None if the note says that nothing was due
abbrev pub item_of : Note → Option DueItem
item_of (note.Done item) = Some item
item_of other = None

-- an outcome shows all that was chosen in its step
abbrev pub choices_of : Outcome → Choices
choices_of outcome = record {
  given = outcome.given;
  answer = outcome.answer;
  dropped = outcome.dropped;
  item = item_of outcome.note;
}

-- an identifier that may be handed out
abbrev pub IsUnusedIn : State → List ℕ → Type 0
IsUnusedIn s id = IsUnusedFor s.tables.live s.kept id

-- what may be chosen for a plan: such an identifier, and an answer that the pool may give
abbrev pub MayChoose : State → Plan → Choices → Type 0
MayChoose s (Settled served) choices = Unit {0}
MayChoose s (Naming named) choices = IfSome choices.given (IsUnusedIn s)
MayChoose s (Asking ask lent refused) choices =
    IfSome choices.answer (IsAnswer (figures_at s.tables.pools ask.pool) ask.units)

-- the entry that is dropped for a request that comes is over; a request is served
-- again when that is due
abbrev pub IsTimely : State → ℕ → Occasion → Type 0
IsTimely s now (First dropped) = IfSome dropped (Passes (is_over now) s.kept)
IsTimely s now Anew = Unit {0}
IsTimely s now (Again born left) = IsDueIn s now (Retry born)

-- What may be chosen: no place is found for a reply only if nothing that is kept is over; what is
-- done is due; and nothing is done only if nothing is due.
abbrev pub IsAllowed : State → ℕ → Course → Choices → Type 0
IsAllowed s now (Ignoring Busy) choices = NonePasses (is_over now) s.kept
IsAllowed s now (Ignoring other) choices = Unit {0}
IsAllowed s now (Hearing endpoint) choices = Unit {0}
IsAllowed s now (Repeating datagram) choices = Unit {0}
IsAllowed s now (Serving task) choices =
    IsTimely s now task.job.occasion × MayChoose s task.plan choices
IsAllowed s now (Doing item) choices = IsDueIn s now item
IsAllowed s now Idle choices = IsNothingDueIn s now

-- From s, the event has this outcome and leaves the state so, by choices that may be made.
pub record Step (s : State) (event : Event) (outcome : Outcome) (after : State) : Type 0 where
  pub allowed : IsAllowed s (moment_of s event)
      (course s event (choices_of outcome)) (choices_of outcome)
  pub makes : machine s event (choices_of outcome) ≡ Some (outcome, after)

-- which pool is asked for how many units, if one is
abbrev pub ask_in_plan : Plan → Option RequestedUnits
ask_in_plan (Settled served) = None
ask_in_plan (Naming named) = None
ask_in_plan (Asking ask lent refused) = Some ask

abbrev pub ask_in : Course → Option RequestedUnits
ask_in (Serving task) = ask_in_plan task.plan
ask_in other = None

-- the figures of the pools once one was asked, if one is
abbrev pub pools_after_ask : List Figures → Option RequestedUnits → Option Lend → List Figures
pools_after_ask pools (Some ask) (Some answer) = pools_after_answer pools ask answer
pools_after_ask pools (Some ask) None = pools
pools_after_ask pools None answer = pools

-- Who lends is asked once, if a pool is to be asked, and gives the answer that the outcome shows;
-- else nobody is asked, and who lends stays as it was.
abbrev pub IsAskedOnce : {L : Type 0} → (L → List Figures → RequestedUnits → Lend → L → Type 0) → L
    → List Figures → Option RequestedUnits → Option Lend → L → Type 0
IsAskedOnce lends old pools (Some ask) (Some answer) new = lends old pools ask answer new
IsAskedOnce lends old pools (Some ask) None new = ⊥
IsAskedOnce lends old pools None answer new = new ≡ old

-- an output has at most the octets of the longest reply
abbrev pub HasFewOctets : Option Datagram → Type 0
HasFewOctets None = Unit {0}
HasFewOctets (Some datagram) = length datagram.bytes ≤ reply_octets.MOST
