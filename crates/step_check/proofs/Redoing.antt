-- A step that is done again by what its outcome shows is that step.
use Rattle.std.proofs.Common.{◌≡◌, ◌<◌, ◌∙◌, ◌+◌, ℕ, Bool, true, false, List, Some, None}
use Rattle.std.proofs.Common.{ap, subst}
use Rattle.std.proofs.Common.{sym, refl, arith}
use Rattle.std.specs.Prelude.{Option, IfSome, max, nat_lt, if◌then◌else◌}
use Rattle.std.specs.Option.{IsSomeAnd}
use Rattle.std.proofs.lemmas.Bool.Decides.{nat_tests}
use Rattle.keyed.proofs.Decide.{same_some}
use Rattle.pools.specs.declared.interface.Figures.{Figures}
use Rattle.pools.specs.declared.interface.Lend.{Lend}
use Rattle.pools.specs.Account.{IsAnswer}
use Rattle.kept_replies.specs.Kept.{Passes, is_over}
use Rattle.zone_events.specs.declared.change.Change.{Change}
use Rattle.zone_events.specs.declared.change.Change.TheVariants as change
use Rattle.zone_events.specs.declared.event.Event.{Event}
use Rattle.zone_events.specs.Events.{moment_in}
use Rattle.zone_events.specs.declared.outcome.Datagram.{Datagram}
use Rattle.zone_events.specs.declared.outcome.IgnoredCause.TheVariants as cause
use Rattle.zone_events.specs.declared.outcome.Note.{Note}
use Rattle.zone_events.specs.declared.outcome.Outcome.{Outcome}
use Rattle.zone_tables.specs.Pools.{RequestedUnits, figures_at}
use Rattle.ras_requests.specs.declared.plan.Plan.{Plan as CodePlan}
use Rattle.ras_requests.specs.declared.plan.Plan.TheVariants as code_plan
use Rattle.ras_requests.specs.Planned.{IsPlan}
use Rattle.ras_requests.specs.Plans.{Plan, Served, Settled, Naming, Asking}
use Rattle.ras_requests.specs.Requests.{endpoint_of}
use Rattle.ras_machine.specs.declared.course.Course as code
use Rattle.ras_machine.specs.declared.course.Course.TheVariants as course
use Rattle.ras_machine.specs.declared.course.Task as code_task
use Rattle.ras_machine.specs.declared.job.Occasion.{Occasion}
use Rattle.ras_machine.specs.declared.job.Occasion.TheVariants.{Again, Anew, First}
use Rattle.ras_machine.specs.State.{State}
use Rattle.ras_machine.specs.Keeping.{Task, plan_at}
use Rattle.ras_machine.specs.Machine.{Choices, Course, Ignoring, Hearing, Repeating, Serving, Doing}
use Rattle.ras_machine.specs.Machine.{Idle, Ending, at_moment, course_at, course_ending, moment_of}
use Rattle.ras_machine.specs.Machine.{most_steps, noted, plan_ending, serving, with_answer}
use Rattle.ras_machine.specs.Machine.{with_name}
use Rattle.ras_machine.specs.Courses.{IsReady, MayBeGiven, MayBeNamed, Performs, Stands, course_of}
use Rattle.ras_machine.specs.Courses.{task_course}
use Rattle.ras_machine.specs.Steps.{IsAllowed, IsAskedOnce, IsUnusedIn, MayChoose, Step, ask_in}
use Rattle.ras_machine.specs.Steps.{ask_in_plan, choices_of}
use Rattle.ras_machine.proofs.Dropping.{over_of}
use Rattle.ras_machine.proofs.Retrying.{plan_there, shown_by}
use Rattle.step_check.specs.declared.recorded.Recorded.{Recorded}
use Rattle.step_check.specs.Recorded.{Repeats}
use Rattle.zone_events.specs.contracts.outcome.OutcomePartialEq.TheImpl as outcome_eq
use Rattle.step_check.specs.Redoing.{NoStep, Redoes}
use Rattle.step_check.specs.Shown.{CannotBeChosen, IsFound, IsShown}
use Rattle.step_check.proofs.Outcomes.{outcomes_decide}

-- two outcomes of one ending are one
one_ending : (ending : Ending) (a b : Outcome) (m n : State) → ending ≡ Some (a, m)
    → ending ≡ Some (b, n) → a ≡ b
one_ending ending a b m n is also =
    ap (λ (e : Outcome × State). e.0) (same_some (a, m) (b, n) (sym is ∙ also))

-- what a course comes to, before the clock and the number of steps are set
pub ending_of : (now steps : ℕ) (ending : Ending) (outcome : Outcome) (after : State)
    → at_moment now steps ending ≡ Some (outcome, after)
    → (mid : State) × (ending ≡ Some (outcome, mid))
ending_of now steps None outcome after is = absurd (cc is)
ending_of now steps (Some answer) outcome after is = (
  answer.1,
  ap (λ o. Some (o, answer.1))
      (ap (λ (a : Outcome × State). a.0) (same_some _ (outcome, after) is)),
)

-- how a lender that repeats a recorded answer lends
abbrev pub lends_again : Recorded → List Figures → RequestedUnits → Lend → Recorded → Type 0
lends_again old figures requested answer new =
    Repeats old.answer (figures_at figures requested.pool) requested.units answer

module _ (s : State) (now : ℕ) where
  -- what may be chosen was ready
  pub allowed_ready : (c : Course) (choices : Choices) → IsAllowed s now c choices → IsReady s now c
  allowed_ready (Ignoring cause.Busy) choices h = h
  allowed_ready (Ignoring cause.TooLong) choices h = tt
  allowed_ready (Ignoring cause.Unreadable) choices h = tt
  allowed_ready (Ignoring cause.NotServed) choices h = tt
  allowed_ready (Ignoring cause.UnknownEndpoint) choices h = tt
  allowed_ready (Hearing endpoint) choices h = tt
  allowed_ready (Repeating datagram) choices h = tt
  allowed_ready (Serving task) choices h = h.0
  allowed_ready (Doing item) choices h = h
  allowed_ready Idle choices h = h

  module _ (outcome : Outcome) (after : State) where
    nothing_dropped : (what : Note) (output : Option Datagram) (z : State)
        → noted what output z ≡ Some (outcome, after)
        → IfSome outcome.dropped (Passes (is_over now) s.kept)
    nothing_dropped what output z is =
        subst (λ (d : Option ℕ). IfSome d (Passes (is_over now) s.kept))
        (ap (λ (a : Outcome × State). a.0.dropped) (same_some _ (outcome, after) is)) tt

    -- an entry that was dropped is over
    pub dropped_over : (c : Course) → IsAllowed s now c (choices_of outcome)
        → course_ending s now c (choices_of outcome) ≡ Some (outcome, after)
        → IfSome outcome.dropped (Passes (is_over now) s.kept)
    dropped_over (Ignoring cause) allowed is = nothing_dropped _ _ _ is
    dropped_over (Hearing endpoint) allowed is = nothing_dropped _ _ _ is
    dropped_over (Repeating datagram) allowed is = nothing_dropped _ _ _ is
    dropped_over (Serving task) allowed is =
        subst (λ (d : Option ℕ). IfSome d (Passes (is_over now) s.kept))
        (sym (shown_by s now task task.plan (choices_of outcome) outcome after is).1)
        (over_of s now task.job.occasion allowed.0)
    dropped_over (Doing item) allowed is = nothing_dropped _ _ _ is
    dropped_over Idle allowed is = nothing_dropped _ _ _ is

    -- if an identifier was handed out, it was an unused one
    naming_given : (task : Task) (named : List ℕ → Served) (given : Option (List ℕ))
        → IfSome given (IsUnusedIn s) → with_name s now task named given ≡ Some (outcome, after)
        → IsSomeAnd given (IsUnusedIn s)
    naming_given task named None unused is = absurd (cc is)
    naming_given task named (Some id) unused is = unused

    occasion_given : (task : Task) (endpoint : Option (List ℕ)) (named : List ℕ → Served)
        (occasion : Occasion)
        → MayChoose s (plan_at occasion now endpoint (Naming named)) (choices_of outcome)
        → plan_ending s now task (plan_at occasion now endpoint (Naming named)) (choices_of outcome)
        ≡ Some (outcome, after)
        → IsSomeAnd outcome.given (IsUnusedIn s)
    occasion_given task endpoint named (First dropped) may is =
        naming_given task _ outcome.given may is
    occasion_given task endpoint named Anew may is =
        naming_given task _ outcome.given may is
    occasion_given task endpoint named (Again born left) may is =
        naming_given task _ outcome.given may is

    planned_given : (task : code_task.Task) (plan : Plan) (made : CodePlan)
        → IsPlan s.tables now task.request plan made
        → IsAllowed s now (serving task.job now task.request plan) (choices_of outcome)
        → course_ending s now (serving task.job now task.request plan) (choices_of outcome)
        ≡ Some (outcome, after)
        → MayBeGiven s made outcome.given
    planned_given task plan (code_plan.Settled d) plans allowed is = tt
    planned_given task plan (code_plan.Renewing time) plans allowed is = tt
    planned_given task plan (code_plan.Naming n) plans allowed is =
        occasion_given (record {
          job = task.job;
          request = task.request;
          plan = plan_at task.job.occasion now (endpoint_of task.request) plan;
        }) (endpoint_of task.request) _ task.job.occasion
        (subst (λ p. MayChoose s (plan_at task.job.occasion now (endpoint_of task.request) p)
        (choices_of outcome)) plans.is allowed.1)
        (ap (λ p. plan_ending s now (record {
          job = task.job;
          request = task.request;
          plan = plan_at task.job.occasion now (endpoint_of task.request) plan;
        }) (plan_at task.job.occasion now (endpoint_of task.request) p) (choices_of outcome))
        (sym plans.is) ∙ is)
    planned_given task plan (code_plan.Asking q) plans allowed is = tt

    -- so it may be handed out
    pub named_allowed : (called : code.Course) → Stands s now called
        → IsAllowed s now (course_of s now called) (choices_of outcome)
        → course_ending s now (course_of s now called) (choices_of outcome) ≡ Some (outcome, after)
        → MayBeNamed s called outcome.given
    named_allowed (course.Ignoring cause) stands allowed is = tt
    named_allowed (course.Hearing endpoint) stands allowed is = tt
    named_allowed (course.Repeating datagram) stands allowed is = tt
    named_allowed (course.Serving task) stands allowed is =
        let there = plan_there s.tables now task.request stands.served in
        planned_given task there.0 task.plan (stands.plans there.0 there.1)
        (subst (λ w. IsAllowed s now (task_course now task w) (choices_of outcome)) there.1 allowed)
        (ap (λ w. course_ending s now (task_course now task w) (choices_of outcome)) (sym there.1)
        ∙ is)
    named_allowed (course.Doing item) stands allowed is = tt
    named_allowed course.Idle stands allowed is = tt

  -- A course that comes to an outcome comes to no other one, if the same identifier is handed out
  -- and the pool repeats its answer.
  module _ (outcome again : Outcome) (after mid : State) (lender : Recorded) where
    naming_same : (task : Task) (named : List ℕ → Served) (given same : Option (List ℕ))
        → with_name s now task named given ≡ Some (outcome, after)
        → with_name s now task named same ≡ Some (again, mid)
        → IfSome same (λ id. given ≡ Some id) → again ≡ outcome
    naming_same task named None same is also handed = absurd (cc is)
    naming_same task named (Some id) None is also handed = absurd (cc also)
    naming_same task named (Some id) (Some other) is also handed =
        one_ending (with_name s now task named (Some id)) again outcome mid after
        (ap (λ i. with_name s now task named (Some i)) (same_some id other handed) ∙ also) is

    asking_same : (task : Task) (ask : RequestedUnits) (lent : ℕ → Served) (refused : Served)
        (answer same : Option Lend)
        → IfSome answer (IsAnswer (figures_at s.tables.pools ask.pool) ask.units)
        → with_answer s now task ask lent refused answer ≡ Some (outcome, after)
        → with_answer s now task ask lent refused same ≡ Some (again, mid)
        → IsAskedOnce lends_again (record { answer = answer }) s.tables.pools (Some ask) same lender
        → again ≡ outcome
    asking_same task ask lent refused None same may is also asked = absurd (cc is)
    asking_same task ask lent refused (Some answer) None may is also asked = absurd (cc also)
    asking_same task ask lent refused (Some answer) (Some other) may is also asked =
        one_ending (with_answer s now task ask lent refused (Some answer)) again outcome mid after
        (ap (λ a. with_answer s now task ask lent refused (Some a)) (sym (asked answer refl may))
        ∙ also) is

    plan_same : (task : Task) (plan : Plan) → MayChoose s plan (choices_of outcome)
        → plan_ending s now task plan (choices_of outcome) ≡ Some (outcome, after)
        → plan_ending s now task plan (choices_of again) ≡ Some (again, mid)
        → IfSome again.given (λ id. outcome.given ≡ Some id)
        → IsAskedOnce lends_again (record { answer = outcome.answer }) s.tables.pools
        (ask_in_plan plan) again.answer lender
        → again ≡ outcome
    plan_same task (Settled served) may is also handed asked =
        one_ending _ again outcome mid after also is
    plan_same task (Naming named) may is also handed asked =
        naming_same task named outcome.given again.given is also handed
    plan_same task (Asking ask lent refused) may is also handed asked =
        asking_same task ask lent refused outcome.answer again.answer may is also asked

    pub course_same : (c : Course) → IsAllowed s now c (choices_of outcome)
        → course_ending s now c (choices_of outcome) ≡ Some (outcome, after)
        → course_ending s now c (choices_of again) ≡ Some (again, mid)
        → IfSome again.given (λ id. outcome.given ≡ Some id)
        → IsAskedOnce lends_again (record { answer = outcome.answer }) s.tables.pools
        (ask_in c) again.answer lender
        → again ≡ outcome
    course_same (Ignoring cause) allowed is also handed asked =
        one_ending _ again outcome mid after also is
    course_same (Hearing endpoint) allowed is also handed asked =
        one_ending _ again outcome mid after also is
    course_same (Repeating datagram) allowed is also handed asked =
        one_ending _ again outcome mid after also is
    course_same (Serving task) allowed is also handed asked =
        plan_same task task.plan allowed.1 is also handed asked
    course_same (Doing item) allowed is also handed asked =
        one_ending _ again outcome mid after also is
    course_same Idle allowed is also handed asked =
        one_ending _ again outcome mid after also is

-- A step of this event with this outcome, by the course that the outcome shows.
module _ (s : State) (event : Event) (outcome : Outcome) where
  -- a machine that is closed makes none
  pub closed_makes_none : s.steps ≡ most_steps → NoStep s (change.Event event) outcome
  closed_makes_none closed after step =
      let shut : nat_lt s.steps most_steps ≡ false = grind (arith, nat_tests) in
      let now = moment_of s event in
      absurd (cc (ap (λ b. if b then at_moment now (s.steps + 1) (course_ending s now
      (course_at s now event (choices_of outcome)) (choices_of outcome)) else None) (sym shut)
      ∙ step.makes))

  module _ (now : ℕ) (few : s.steps < most_steps) (now_is : now ≡ moment_of s event) where
    abbrev pub Ends : ℕ → State → Type 0
    Ends n mid = course_ending s n (course_at s n event (choices_of outcome)) (choices_of outcome)
        ≡ Some (outcome, mid)

    abbrev pub IsAllowedAt : ℕ → Type 0
    IsAllowedAt n = IsAllowed s n (course_at s n event (choices_of outcome)) (choices_of outcome)

    below_most : nat_lt s.steps most_steps ≡ true
    below_most = grind (arith, nat_tests)

    -- what such a step says of its course
    pub step_ends : (after : State) → Step s event outcome after
        → IsAllowedAt now × ((mid : State) × Ends now mid)
    step_ends after step =
        subst (λ n. IsAllowedAt n × ((mid : State) × Ends n mid)) (sym now_is) (
          step.allowed,
          ending_of (moment_of s event) (s.steps + 1)
              (course_ending s (moment_of s event)
              (course_at s (moment_of s event) event (choices_of outcome)) (choices_of outcome))
              outcome after
              (ap (λ b. if b then at_moment (moment_of s event) (s.steps + 1)
              (course_ending s (moment_of s event)
              (course_at s (moment_of s event) event (choices_of outcome)) (choices_of outcome))
              else None) (sym below_most) ∙ step.makes),
        )

    -- there is none if the choices that the outcome shows may not be made
    pub absent : CannotBeChosen s now event outcome → NoStep s (change.Event event) outcome
    absent cannot after step =
        let ends = step_ends after step in
        cannot ends.1.0 ends.0 ends.1.1

    module _ (called : code.Course) (shown : IsShown s now event outcome called) where
      -- the course is done: that was the step
      pub step_made : (new : State) → Performs s now (course_of s now called) outcome new
          → Step s event outcome new
      step_made new performs =
          let p = subst (λ c. Performs s now c outcome new) shown.calls.is performs in
          let q = subst (λ n. Performs s n (course_at s n event (choices_of outcome)) outcome new)
          now_is p in
          record {
            allowed = q.allowed;
            makes = ap (λ b. if b then at_moment (moment_of s event) (s.steps + 1)
                (course_ending s (moment_of s event)
                (course_at s (moment_of s event) event (choices_of outcome)) (choices_of outcome))
                else None) below_most ∙ q.makes;
          }

      -- there is none if the identifier may not be handed out
      pub unnamed : (MayBeNamed s called outcome.given → ⊥) → NoStep s (change.Event event) outcome
      unnamed cannot after step =
          let ends = step_ends after step in
          cannot (named_allowed s now outcome ends.1.0 called shown.calls.stands
          (subst (λ c. IsAllowed s now c (choices_of outcome)) (sym shown.calls.is) ends.0)
          (ap (λ c. course_ending s now c (choices_of outcome)) shown.calls.is ∙ ends.1.1))

      -- if there is one, the course comes to its outcome again
      pub redone : (after : State) → Step s event outcome after → (again : Outcome) (new : State)
          (lender : Recorded) → Performs s now (course_of s now called) again new
          → IfSome again.given (λ id. outcome.given ≡ Some id)
          → IsAskedOnce lends_again (record { answer = outcome.answer }) s.tables.pools
          (ask_in (course_of s now called)) again.answer lender
          → again ≡ outcome
      redone after step again new lender performs handed asked =
          let ends = step_ends after step in
          let p = subst (λ c. Performs s now c again new) shown.calls.is performs in
          let also = ending_of now (s.steps + 1) (course_ending s now
          (course_at s now event (choices_of outcome)) (choices_of again)) again new p.makes in
          course_same s now outcome again ends.1.0 also.0 lender
          (course_at s now event (choices_of outcome)) ends.0 ends.1.1 also.1 handed
          (subst (λ c. IsAskedOnce lends_again (record { answer = outcome.answer }) s.tables.pools
          (ask_in c) again.answer lender) shown.calls.is asked)

      -- and nothing else is a step of this event with this outcome
      pub redoes : (again : Outcome) (new : State) (lender : Recorded) (b : Bool)
          → b ≡ (outcome_eq.ghosts).eq again outcome
          → Performs s now (course_of s now called) again new
          → IfSome again.given (λ id. outcome.given ≡ Some id)
          → IsAskedOnce lends_again (record { answer = outcome.answer }) s.tables.pools
          (ask_in (course_of s now called)) again.answer lender
          → Redoes s (change.Event event) outcome b new
      redoes again new lender true is performs handed asked =
          step_made new (subst (λ o. Performs s now (course_of s now called) o new)
          ((outcomes_decide again outcome).0 (sym is)) performs)
      redoes again new lender false is performs handed asked = λ after step.
          absurd (cc (is ∙ (outcomes_decide again outcome).1
          (redone after step again new lender performs handed asked)))

-- what was found for an event is for an equal one
module _ (s : State) (now : ℕ) (same event : Event) (is : same ≡ event) (outcome : Outcome) where
  pub found_shown : (found : Option code.Course) (called : code.Course) → found ≡ Some called
      → IsFound s now same outcome found → IsShown s now event outcome called
  found_shown found called there h =
      subst (λ (e : Event). IsShown s now e outcome called) is
      (subst (λ w. IsFound s now same outcome w) there h)

  pub none_found : (found : Option code.Course) → ((called : code.Course) → found ≡ Some called → ⊥)
      → IsFound s now same outcome found → CannotBeChosen s now event outcome
  none_found None none h = subst (λ (e : Event). CannotBeChosen s now e outcome) is h
  none_found (Some called) none h = absurd (none called refl)

-- the moment of a step
pub at_its_moment : (s : State) (now clock moment : ℕ) (same event : Event) → same ≡ event
    → now ≡ max clock moment → clock ≡ s.clock → moment ≡ moment_in same → now ≡ moment_of s event
at_its_moment s now clock moment same event is later clock_is moment_is =
    later ∙ (λ j. max (clock_is j) ((moment_is ∙ ap moment_in is) j))

-- a copy that has no such step tells that the original has none
pub refused : (s copy new : State) (what : Change) (outcome : Outcome) (b : Bool) → b ≡ false
    → copy ≡ s → Redoes copy what outcome b new → NoStep s what outcome
refused s copy new what outcome true is_false is redoes = absurd (cc is_false)
refused s copy new what outcome false is_false is none =
    subst (λ (z : State). NoStep z what outcome) is none
