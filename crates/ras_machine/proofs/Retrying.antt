-- Requests that wait, and are served again.
use Rattle.std.proofs.Common.{◌≡◌, ℕ, List, refl, sym, ◌∙◌, ap, subst, Some, None}
use Rattle.std.specs.Prelude.{Option}
use Rattle.std.specs.Option.{IsSomeAnd}
use Rattle.std.specs.FinMap as fin
use Rattle.keyed.proofs.Decide.{same_some}
use Rattle.ras_module.specs.declared.reply.Reply.{Reply}
use Rattle.ras_module.specs.declared.request.InfoRequestResponse.{InfoRequestResponse}
use Rattle.ras_module.specs.declared.request.Request.{Request}
use Rattle.ras_module.specs.declared.request.Request.TheVariants.{Grq, Rrq, Urq, Arq, Brq, Drq, Irr}
use Rattle.pools.specs.declared.interface.Lend.{Lend}
use Rattle.kept_replies.specs.declared.key.KeptKey.{KeptKey}
use Rattle.kept_replies.specs.declared.entry.KeptEntry.{KeptEntry}
use Rattle.kept_replies.specs.declared.entry.KeptState.TheVariants.{Pending}
use Rattle.kept_replies.specs.Kept.{AreBornApart, births, left_in}
use Rattle.kept_replies.proofs.Births.{births-has}
use Rattle.ras_machine.specs.declared.job.Occasion.TheVariants.{Again}
use Rattle.zone_events.specs.declared.outcome.Outcome.{Outcome}
use Rattle.ras_machine.specs.State.{State}
use Rattle.zone_tables.specs.Tables.{Tables}
use Rattle.ras_requests.specs.Plans.{Plan, Settled, Naming, Asking}
use Rattle.ras_requests.specs.Requests.{plan_of, HasReply}
use Rattle.ras_machine.specs.Keeping.{Task, dropped_for}
use Rattle.ras_machine.specs.Machine.{Choices, again_course, note_at, plan_ending}
use Rattle.ras_machine.specs.Machine.{retry_course, retry_in_course}
use Rattle.ras_machine.specs.Machine.{serving, with_answer, with_name}
use Rattle.ras_machine.specs.Courses.{IsAgain}

-- a request that is served comes to something
pub plan_there : (z : Tables) (now : ℕ) (request : Request) → HasReply request
    → (plan : Plan) × (plan_of z now request ≡ Some plan)
plan_there z now (Grq q) h = (_, refl)
plan_there z now (Rrq q) h =
    (_, refl)
plan_there z now (Urq q) h = (_, refl)
plan_there z now (Arq q) h = (_, refl)
plan_there z now (Brq q) h = (_, refl)
plan_there z now (Drq q) h = (_, refl)
plan_there z now (Irr q) h = absurd h

-- what is shown if a request is served: on which occasion, and what was dropped for it
pub shown_by : (s : State) (now : ℕ) (task : Task) (plan : Plan) (choices : Choices)
    (outcome : Outcome) (after : State)
    → plan_ending s now task plan choices ≡ Some (outcome, after)
    → (outcome.note ≡ note_at task.job.occasion) × (outcome.dropped ≡ dropped_for task.job.occasion)
shown_by s now task (Settled served) choices outcome after is = (
  ap (λ (a : Outcome × State). a.0.note) (sym (same_some _ (outcome, after) is)),
  ap (λ (a : Outcome × State). a.0.dropped) (sym (same_some _ (outcome, after) is)),
)
shown_by s now task (Naming named) choices outcome after is = cases choices.given is where
  cases : (given : Option (List ℕ)) → with_name s now task named given ≡ Some (outcome, after)
      → (outcome.note ≡ note_at task.job.occasion)
      × (outcome.dropped ≡ dropped_for task.job.occasion)
  cases None is = absurd (cc is)
  cases (Some id) is = (
    ap (λ (a : Outcome × State). a.0.note) (sym (same_some _ (outcome, after) is)),
    ap (λ (a : Outcome × State). a.0.dropped) (sym (same_some _ (outcome, after) is)),
  )
shown_by s now task (Asking ask lent refused) choices outcome after is =
    cases choices.answer is where
      cases : (answer : Option Lend)
          → with_answer s now task ask lent refused answer ≡ Some (outcome, after)
          → (outcome.note ≡ note_at task.job.occasion)
          × (outcome.dropped ≡ dropped_for task.job.occasion)
      cases None is = absurd (cc is)
      cases (Some answer) is = (
        ap (λ (a : Outcome × State). a.0.note) (sym (same_some _ (outcome, after) is)),
        ap (λ (a : Outcome × State). a.0.dropped) (sym (same_some _ (outcome, after) is)),
      )

-- the entry of a request that waits
module _ (s : State) (apart : AreBornApart s.kept) (now born : ℕ)
    (key : KeptKey) (entry : KeptEntry)
    (found : fin.get (births s.kept) born ≡ Some (key, entry)) where
  module _ (request : Request) (reply : Reply) (retry left : ℕ)
      (is : entry.state ≡ Pending request reply retry left) where
    pub waits_so : retry_course s now born (fin.get (births s.kept) born)
        ≡ retry_in_course s now key born (Pending request reply retry left)
    waits_so = ap (retry_course s now born) found ∙ ap (retry_in_course s now key born) is

    pub is_again : (copy : KeptKey) (again : Request) → copy ≡ key
        → again ≡ request → HasReply request
        → IsAgain s now born (record { key = copy; occasion = Again born left }) again
    is_again copy again copied again_is served = record {
      placed = subst (λ w. IsSomeAnd w (λ entry. left_in entry.state ≡ left))
          (sym (ap (fin.get s.kept) copied ∙ (births-has s.kept apart born (key, entry) found).0))
          (ap left_in is);
      served = subst HasReply (sym again_is) served;
      course = λ plan planned. waits_so ∙ served_so (plan_of s.tables now request) plan
          (ap (plan_of s.tables now) (sym again_is) ∙ planned);
    } where
      served_so : (w : Option Plan) (plan : Plan) → w ≡ Some plan
          → again_course now key born request left w
          ≡ serving (record { key = copy; occasion = Again born left }) now again plan
      served_so w plan is =
          ap (again_course now key born request left) is
          ∙ (λ j. serving (record { key = sym copied j; occasion = Again born left })
          now (sym again_is j) plan)

-- all but an InfoRequestResponse are served
pub is_served : (request : Request)
    → ((q : InfoRequestResponse) → request ≡ Irr q → ⊥) → HasReply request
is_served (Grq q) other = tt
is_served (Rrq q) other = tt
is_served (Urq q) other = tt
is_served (Arq q) other = tt
is_served (Brq q) other = tt
is_served (Drq q) other = tt
is_served (Irr q) other = other q refl
