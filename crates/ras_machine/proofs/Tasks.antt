-- A request that was served by its plan is what its course comes to.
use Rattle.std.proofs.Common.{◌≡◌, ◌∙◌, ℕ, List, Some, None, ap, subst, sym}
use Rattle.std.specs.Prelude.{IsSome, Option, []}
use Rattle.std.specs.Option.{unwrap_or}
use Rattle.std.specs.FinMap.{get}
use Rattle.pools.specs.declared.interface.Figures.{Figures}
use Rattle.pools.specs.declared.interface.Lend.{Lend}
use Rattle.zone_events.specs.declared.outcome.Outcome.{Outcome}
use Rattle.zone_tables.specs.declared.unit_request.UnitRequest.{UnitRequest}
use Rattle.zone_tables.specs.Pools.{RequestedUnits}
use Rattle.zone_tables.specs.UnitRequests.{units_requested}
use Rattle.ras_requests.specs.declared.plan.GrantedTime.{GrantedTime}
use Rattle.ras_requests.specs.declared.plan.Newcomer.{Newcomer}
use Rattle.ras_requests.specs.declared.plan.Plan.TheVariants as code_plan
use Rattle.ras_requests.specs.declared.plan.Settlement.{Settlement}
use Rattle.ras_requests.specs.Planned.{IsPlanOf, RequestsUnits, Names, Settles, served}
use Rattle.ras_requests.specs.Planned.{Renews, asker_of, renewal_of, settlement_under}
use Rattle.zone_tables.proofs.Answered.{is_there}
use Rattle.ras_requests.specs.Plans.{Plan}
use Rattle.ras_requests.specs.Requests.{endpoint_of, plan_of}
use Rattle.ras_machine.specs.declared.course.Course as code
use Rattle.ras_machine.specs.declared.course.Course.TheVariants as course
use Rattle.ras_machine.specs.declared.course.Task as code_task
use Rattle.ras_machine.specs.State.{State}
use Rattle.ras_machine.specs.Machine.{Course, serving}
use Rattle.ras_machine.specs.Courses.{CarriesOut, Does, IsTask, KeepsAlive, ServesByUnits}
use Rattle.ras_machine.specs.Courses.{course_of, resolved, task_course}
use Rattle.ras_machine.specs.Steps.{IsAskedOnce, ask_in}
use Rattle.ras_machine.proofs.Asking.{asks_by}
use Rattle.ras_machine.proofs.Carrying.{asks_nothing}
use Rattle.ras_machine.proofs.Retrying.{plan_there}

-- what a course comes to, and who lends then, in other words
module _ (s : State) (now : ℕ) (called given : code.Course) (called_is : called ≡ given)
    (told outcome : Outcome) (outcome_is : told ≡ outcome) where
  pub does_so : (left new : State) → left ≡ new → Does s now (course_of s now given) outcome new
      → Does s now (course_of s now called) told left
  does_so left new new_is = subst (λ (p : Type 0). p)
      (λ j. Does s now (course_of s now (sym called_is j)) (sym outcome_is j) (sym new_is j))

  pub asks_so : {L : Type 0} (lends : L → List Figures → RequestedUnits → Lend → L → Type 0)
      (old left new : L) → left ≡ new
      → IsAskedOnce lends old s.tables.pools (ask_in (course_of s now given)) outcome.answer new
      → IsAskedOnce lends old s.tables.pools (ask_in (course_of s now called)) told.answer left
  asks_so lends old left new new_is = subst (λ (p : Type 0). p)
      (λ j. IsAskedOnce lends old s.tables.pools (ask_in (course_of s now (sym called_is j)))
      (sym outcome_is j).answer (sym new_is j))

module _ (s : State) (now : ℕ) (task : code_task.Task) (is : IsTask s now task) where
  abbrev its_plan : (plan : Plan) × (plan_of s.tables now task.request ≡ Some plan)
  its_plan = plan_there s.tables now task.request is.served

  -- what holds of the course that serves it by its plan
  by_plan : (P : Course → Type 0) → P (serving task.job now task.request its_plan.0)
      → P (course_of s now (course.Serving task))
  by_plan P h = subst (λ (w : Option Plan). P (task_course now task w)) (sym its_plan.1) h

  module _ (d : Settlement) (plan_is : task.plan ≡ code_plan.Settled d) where
    abbrev settles : Settles s.tables now task.request its_plan.0 d
    settles = subst (IsPlanOf s.tables now task.request) plan_is is.plans its_plan.0 its_plan.1

    abbrev settled_so : resolved its_plan.0 None ≡ Some (served s.tables now task.request d)
    settled_so = ap (λ (p : Plan). resolved p None) settles.is

    pub settled_does : (outcome : Outcome) (new : State)
        → CarriesOut s now task.job task.request d None outcome new
        → Does s now (course_of s now (course.Serving task)) outcome new
    settled_does outcome new carries =
        by_plan (λ c. Does s now c outcome new) (carries its_plan.0 settled_so)

    pub settled_asks : ask_in (course_of s now (course.Serving task)) ≡ None
    settled_asks = by_plan (λ c. ask_in c ≡ None)
        (asks_nothing s.tables now task.request d task.job.occasion (endpoint_of task.request)
        its_plan.0 None settled_so)

  module _ (time : GrantedTime) (plan_is : task.plan ≡ code_plan.Renewing time) where
    abbrev renews : Renews s.tables now task.request its_plan.0 time
    renews = subst (IsPlanOf s.tables now task.request) plan_is is.plans its_plan.0 its_plan.1

    pub renewed_names : IsSome (endpoint_of task.request)
    renewed_names = is_there (endpoint_of task.request) renews.id renews.names

    pub renewed_registered : IsSome (get s.tables.live (asker_of task.request))
    renewed_registered = is_there (get s.tables.live (asker_of task.request)) renews.registration
        (ap (λ (who : Option (List ℕ)). get s.tables.live (unwrap_or who [])) renews.names
        ∙ renews.registered)

    pub renewed_does : (outcome : Outcome) (new : State)
        → KeepsAlive s now task.job task.request time outcome new
        → Does s now (course_of s now (course.Serving task)) outcome new
    renewed_does outcome new keeps =
        by_plan (λ c. Does s now c outcome new) (keeps its_plan.0 renews)

    pub renewed_asks : ask_in (course_of s now (course.Serving task)) ≡ None
    renewed_asks = by_plan (λ c. ask_in c ≡ None)
        (asks_nothing s.tables now task.request (renewal_of s.tables time renews.registration)
        task.job.occasion (endpoint_of task.request) its_plan.0 None
        (ap (λ (p : Plan). resolved p None) renews.settles.is))

  module _ (n : Newcomer) (plan_is : task.plan ≡ code_plan.Naming n) where
    abbrev names : Names s.tables now task.request its_plan.0 n
    names = subst (IsPlanOf s.tables now task.request) plan_is is.plans its_plan.0 its_plan.1

    module _ (id : List ℕ) (d : Settlement) (d_is : d ≡ settlement_under n id) where
      abbrev named_so : resolved its_plan.0 (Some id) ≡ Some (served s.tables now task.request d)
      named_so = ap (λ (p : Plan). resolved p (Some id)) names.is
          ∙ ap (λ (d : Settlement). Some (served s.tables now task.request d)) (sym d_is)

      pub named_does : (outcome : Outcome) (new : State)
          → CarriesOut s now task.job task.request d (Some id) outcome new
          → Does s now (course_of s now (course.Serving task)) outcome new
      named_does outcome new carries =
          by_plan (λ c. Does s now c outcome new) (carries its_plan.0 named_so)

      pub named_asks : ask_in (course_of s now (course.Serving task)) ≡ None
      named_asks = by_plan (λ c. ask_in c ≡ None)
          (asks_nothing s.tables now task.request d task.job.occasion (endpoint_of task.request)
          its_plan.0 (Some id) named_so)

  module _ (q : UnitRequest) (plan_is : task.plan ≡ code_plan.Asking q) where
    abbrev requests : RequestsUnits s.tables task.request its_plan.0 q
    requests = subst (IsPlanOf s.tables now task.request) plan_is is.plans its_plan.0 its_plan.1

    pub asked_does : (outcome : Outcome) (new : State)
        → ServesByUnits s now task.job task.request q outcome new
        → Does s now (course_of s now (course.Serving task)) outcome new
    asked_does outcome new serves =
        by_plan (λ c. Does s now c outcome new) (serves its_plan.0 requests)

    pub asked_asks : ask_in (course_of s now (course.Serving task)) ≡ Some (units_requested q)
    asked_asks = by_plan (λ c. ask_in c ≡ Some (units_requested q))
        (asks_by s.tables task.request its_plan.0 q requests task.job.occasion now
        (endpoint_of task.request))
