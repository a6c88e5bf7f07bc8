-- What waits stays in progress through each step.
use Rattle.std.proofs.Common.{◌≡◌, ℕ, Bool, true, false, List, refl, sym, ◌∙◌, ap, subst}
use Rattle.std.proofs.Common.{Some, None}
use Rattle.std.specs.Prelude.{Option, IfSome, if◌then◌else◌}
use Rattle.std.specs.Option.{option_map}
use Rattle.std.specs.FinMap as fin
use Rattle.keyed.specs.Maps.{update}
use Rattle.keyed.proofs.Decide.{same_some, some_none}
use Rattle.keyed.proofs.Maps.{by_key, Changed-insert, Changed-update}
use Rattle.ras_module.specs.declared.reply.Reply.TheVariants.{Rip}
use Rattle.kept_replies.specs.Keys.{key_cmp}
use Rattle.kept_replies.specs.declared.key.KeptKey.{KeptKey}
use Rattle.kept_replies.specs.declared.entry.KeptEntry.{KeptEntry}
use Rattle.kept_replies.specs.declared.entry.KeptState.{KeptState}
use Rattle.kept_replies.specs.declared.entry.KeptState.TheVariants.{Done, Pending}
use Rattle.kept_replies.specs.Kept.{KeptReplies, postponed_in}
use Rattle.kept_replies.proofs.KeyOrder.{key_cmp_total, key_cmp-IsAntisymmetric}
use Rattle.pools.specs.declared.interface.Lend.{Lend}
use Rattle.zone_config.specs.declared.config.ConfigParts.{ConfigParts}
use Rattle.zone_config.specs.Terms.{term_of}
use Rattle.zone_events.specs.declared.due_item.DueItem.{DueItem}
use Rattle.zone_events.specs.declared.due_item.DueItem.TheVariants.{RegistrationOver, Interrogate}
use Rattle.zone_events.specs.declared.due_item.DueItem.TheVariants.{Silent, Retry, KeptOver}
use Rattle.zone_events.specs.declared.due_item.DueItem.TheVariants.{PoolTurn}
use Rattle.zone_events.specs.declared.outcome.Outcome.{Outcome}
use Rattle.zone_tables.specs.Pools.{RequestedUnits, grant_of}
use Rattle.zone_tables.proofs.Departing.{settings_stay}
use Rattle.ras_requests.specs.Plans.{Served, Plan, Settled, Naming, Asking}
use Rattle.ras_requests.specs.Requests.{endpoint_of, plan_of, seq_of}
use Rattle.ras_machine.specs.declared.course.Course as code
use Rattle.ras_machine.specs.declared.course.Course.TheVariants as course
use Rattle.ras_machine.specs.declared.job.Occasion.{Occasion}
use Rattle.ras_machine.specs.declared.job.Occasion.TheVariants.{Again, Anew, First}
use Rattle.ras_machine.specs.State.{State}
use Rattle.ras_machine.specs.Soundness.{AllWaitInProgress, MayRequestUnits, WaitsInProgress}
use Rattle.ras_machine.specs.Keeping.{Progress, Task, after_drop, answered, granted}
use Rattle.ras_machine.specs.Keeping.{in_progress}
use Rattle.ras_machine.specs.Keeping.{kept_after, kept_with, plan_at, served_again}
use Rattle.ras_machine.specs.Keeping.{state_after, waits}
use Rattle.ras_machine.specs.Keeping.{with_answered_pool}
use Rattle.ras_machine.specs.Machine.{Choices, course_ending, ended, plan_ending, with_answer}
use Rattle.ras_machine.specs.Machine.{with_name}
use Rattle.ras_machine.specs.Courses.{course_of, task_course}
use Rattle.ras_machine.proofs.PlansFor.{IsPlanFor, is_plan, is_plan_at}
use Rattle.ras_machine.proofs.Dropping.{get_after_drop}

-- nothing that is kept waits
pub waiting_nothing : (delay : ℕ) → AllWaitInProgress delay fin.empty
waiting_nothing delay key entry there = some_none (sym there ∙ fin.get-empty key_cmp key)

module _ (delay : ℕ) where
  waits_longer : (moment : ℕ) (state : KeptState) → WaitsInProgress delay state
      → WaitsInProgress delay (postponed_in moment state)
  waits_longer moment (Done reply until) is = tt
  waits_longer moment (Pending request reply retry left) is = is

  module _ (kept : KeptReplies) (waiting : AllWaitInProgress delay kept) where
    waiting_dropped : (dropped : Option ℕ) → AllWaitInProgress delay (after_drop kept dropped)
    waiting_dropped dropped key entry there =
        waiting key entry (get_after_drop kept dropped key entry there)

    waiting_inserted : (dropped : Option ℕ) (key : KeptKey) (new : KeptEntry)
        → WaitsInProgress delay new.state
        → AllWaitInProgress delay (fin.insert (after_drop kept dropped) key new)
    waiting_inserted dropped key new fits q entry there =
        let c =
        Changed-insert key_cmp_total key_cmp-IsAntisymmetric (after_drop kept dropped) key new in
        by_key key_cmp_total key_cmp-IsAntisymmetric q key (WaitsInProgress delay entry.state)
        (λ same. subst (λ (e : KeptEntry). WaitsInProgress delay e.state)
        (same_some new entry (sym c.here
        ∙ (ap (fin.get (fin.insert (after_drop kept dropped) key new)) (sym same) ∙ there)))
        fits)
        (λ differ. waiting_dropped dropped q entry (sym (c.others q differ) ∙ there))

    waiting_updated : (key : KeptKey) (f : KeptEntry → KeptEntry)
        → ((e : KeptEntry) → WaitsInProgress delay e.state → WaitsInProgress delay (f e).state)
        → AllWaitInProgress delay (update kept key f)
    waiting_updated key f stays q entry there =
        let c = Changed-update key_cmp_total key_cmp-IsAntisymmetric kept key f in
        by_key key_cmp_total key_cmp-IsAntisymmetric q key (WaitsInProgress delay entry.state)
        (λ same. here (fin.get kept key) refl
        (sym c.here ∙ (ap (fin.get (update kept key f)) (sym same) ∙ there)))
        (λ differ. waiting q entry (sym (c.others q differ) ∙ there)) where
          here : (w : Option KeptEntry) → fin.get kept key ≡ w → option_map f w ≡ Some entry
              → WaitsInProgress delay entry.state
          here None is h = absurd (cc h)
          here (Some e) is h =
              subst (λ (e : KeptEntry). WaitsInProgress delay e.state) (same_some (f e) entry h)
              (stays e (waiting key e is))

    waiting_with : (key : KeptKey) (occasion : Occasion) (born : ℕ) (state : KeptState)
        → WaitsInProgress delay state
        → AllWaitInProgress delay (kept_with kept key occasion born state)
    waiting_with key (First dropped) born state fits =
        waiting_inserted dropped key (record { born = born; state = state }) fits
    waiting_with key Anew born state fits =
        waiting_inserted None key (record { born = born; state = state }) fits
    waiting_with key (Again first left) born (Done reply until) fits =
        waiting_updated key (served_again (Done reply until)) (λ e is. tt)
    waiting_with key (Again first left) born (Pending request reply retry more) fits =
        waiting_updated key (served_again (Pending request reply retry more))
        (λ e is. waits_longer retry e.state is)

-- in this state
abbrev WaitIn : State → Type 0
WaitIn s = AllWaitInProgress s.tables.config.delay s.kept

module _ (s : State) (now : ℕ) (waiting : WaitIn s) where
  -- the state after an outcome
  left_so : (left : Outcome × State) (outcome : Outcome) (after : State)
      → Some left ≡ Some (outcome, after) → WaitIn left.1 → WaitIn after
  left_so left outcome after is so =
      subst (λ (t : State). WaitIn t)
      (ap (λ (a : Outcome × State). a.1) (same_some left (outcome, after) is)) so

  ended_so : (task : Task) (given : Option (List ℕ)) (answer : Option Lend) (p : Progress)
      (outcome : Outcome) (after : State) → p.served.tables.config ≡ s.tables.config
      → WaitsInProgress s.tables.config.delay
      (state_after task.request p.served.reply p.waits (term_of s.tables.config now))
      → ended s now task given answer p ≡ Some (outcome, after) → WaitIn after
  ended_so task given answer p outcome after stays fits is =
      left_so _ outcome after is
      (subst (λ (config : ConfigParts). AllWaitInProgress config.delay (kept_after s now task p))
      (sym stays)
      (waiting_with s.tables.config.delay s.kept waiting task.job.key task.job.occasion s.steps
      (state_after task.request p.served.reply p.waits (term_of s.tables.config now)) fits))

  asked_so : (task : Task) (ask : RequestedUnits) (lent : ℕ → Served) (refused : Served)
      (answer : Lend) (w : Bool) (outcome : Outcome) (after : State)
      → IsPlanFor s.tables (MayRequestUnits task.request) (Asking ask lent refused)
      → ended s now task None (Some answer) (with_answered_pool s.tables ask answer
      (if w
      then in_progress s.tables.config.delay task.request refused
      else answered (granted lent refused (grant_of ask.least answer))))
      ≡ Some (outcome, after) → WaitIn after
  asked_so task ask lent refused answer true outcome after fits is =
      let delay = s.tables.config.delay in
      let told : WaitsInProgress delay (state_after task.request (Rip (seq_of task.request) delay)
      true (term_of s.tables.config now)) = (fits.0, refl) in
      ended_so task None (Some answer)
      (with_answered_pool s.tables ask answer (in_progress delay task.request refused))
      outcome after fits.2 told is
  asked_so task ask lent refused answer false outcome after fits is =
      by_grant (grant_of ask.least answer) is where
        by_grant : (grant : Option ℕ)
            → ended s now task None (Some answer) (with_answered_pool s.tables ask answer
            (answered (granted lent refused grant))) ≡ Some (outcome, after) → WaitIn after
        by_grant None is =
            ended_so task None (Some answer)
            (with_answered_pool s.tables ask answer (answered refused)) outcome after fits.2 tt is
        by_grant (Some units) is =
            ended_so task None (Some answer)
            (with_answered_pool s.tables ask answer (answered (lent units)))
            outcome after (fits.1 units) tt is

  served_so : (task : Task) (plan : Plan) (choices : Choices) (outcome : Outcome) (after : State)
      → IsPlanFor s.tables (MayRequestUnits task.request) plan
      → plan_ending s now task plan choices ≡ Some (outcome, after) → WaitIn after
  served_so task (Settled served) choices outcome after fits is =
      ended_so task None None (answered served) outcome after fits tt is
  served_so task (Naming named) choices outcome after fits is = cases choices.given is where
    cases : (given : Option (List ℕ)) → with_name s now task named given ≡ Some (outcome, after)
        → WaitIn after
    cases None is = absurd (cc is)
    cases (Some id) is =
        ended_so task (Some id) None (answered (named id)) outcome after (fits id) tt is
  served_so task (Asking ask lent refused) choices outcome after fits is =
      cases choices.answer is where
        cases : (answer : Option Lend)
            → with_answer s now task ask lent refused answer ≡ Some (outcome, after)
            → WaitIn after
        cases None is = absurd (cc is)
        cases (Some answer) is =
            asked_so task ask lent refused answer (waits task.job.occasion answer) outcome after
            fits is

  did_so : (item : DueItem) (choices : Choices) (outcome : Outcome) (after : State)
      → course_ending s now (course_of s now (course.Doing item)) choices ≡ Some (outcome, after)
      → WaitIn after
  did_so (RegistrationOver id) choices outcome after is =
      left_so _ outcome after is
      (subst (λ (config : ConfigParts). AllWaitInProgress config.delay s.kept)
      (sym (settings_stay s.tables id)) waiting)
  did_so (Interrogate id) choices outcome after is = left_so _ outcome after is waiting
  did_so (Silent id) choices outcome after is =
      left_so _ outcome after is
      (subst (λ (config : ConfigParts). AllWaitInProgress config.delay s.kept)
      (sym (settings_stay s.tables id)) waiting)
  did_so (Retry born) choices outcome after is = left_so _ outcome after is waiting
  did_so (KeptOver born) choices outcome after is =
      left_so _ outcome after is
      (waiting_dropped s.tables.config.delay s.kept waiting (Some born))
  did_so PoolTurn choices outcome after is = left_so _ outcome after is waiting

  pub waiting_after : (called : code.Course) (choices : Choices) (outcome : Outcome)
      (after : State)
      → course_ending s now (course_of s now called) choices ≡ Some (outcome, after)
      → WaitIn after
  waiting_after (course.Ignoring cause) choices outcome after is =
      left_so _ outcome after is waiting
  waiting_after (course.Hearing endpoint) choices outcome after is =
      left_so _ outcome after is waiting
  waiting_after (course.Repeating datagram) choices outcome after is =
      left_so _ outcome after is waiting
  waiting_after (course.Serving task) choices outcome after is =
      cases (plan_of s.tables now task.request) (is_plan s.tables now task.request) is where
        cases : (w : Option Plan) → IfSome w (IsPlanFor s.tables (MayRequestUnits task.request))
            → course_ending s now (task_course now task w) choices ≡ Some (outcome, after)
            → WaitIn after
        cases None fits is = left_so _ outcome after is waiting
        cases (Some plan) fits is =
            served_so (record {
              job = task.job;
              request = task.request;
              plan = plan_at task.job.occasion now (endpoint_of task.request) plan;
            }) (plan_at task.job.occasion now (endpoint_of task.request) plan) choices outcome after
            (is_plan_at s.tables (MayRequestUnits task.request) task.job.occasion now
            (endpoint_of task.request) plan fits) is
  waiting_after (course.Doing item) choices outcome after is =
      did_so item choices outcome after is
  waiting_after course.Idle choices outcome after is = left_so _ outcome after is waiting
