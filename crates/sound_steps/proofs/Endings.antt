-- What a course leaves is sound.
use Rattle.std.proofs.Common.{◌≡◌, ◌≤◌, ◌+◌, ◌==◌, ℕ, Bool, true, false, List, refl, sym}
use Rattle.std.proofs.Common.{subst, Some, None, arith}
use Rattle.std.specs.Prelude.{IfSome, Option, if◌then◌else◌}
use Rattle.keyed.proofs.Decide.{same_some}
use Rattle.pools.specs.declared.interface.Lend.{Lend}
use Rattle.pools.specs.declared.interface.Lend.TheVariants.{Lent, Refused, Wait}
use Rattle.pools.specs.Account.{IsAnswer}
use Rattle.zone_config.specs.declared.config.ConfigParts.{ConfigParts}
use Rattle.zone_config.specs.Terms.{term_of}
use Rattle.zone_config.proofs.RangesKept.{limits}
use Rattle.zone_events.specs.declared.due_item.DueItem.{DueItem}
use Rattle.zone_events.specs.declared.due_item.DueItem.TheVariants as item
use Rattle.zone_events.specs.declared.outcome.Outcome.{Outcome}
use Rattle.zone_tables.specs.Disengaging.{without_endpoint, without_silent}
use Rattle.zone_tables.specs.Pools.{RequestedUnits, figures_at, grant_of, pools_after_answer}
use Rattle.zone_tables.specs.Soundness.{CountsOneMore, SoundTables}
use Rattle.zone_tables.specs.Tables.{Tables}
use Rattle.zone_tables.proofs.ButLent.{counts_same, same_after_end}
use Rattle.zone_tables.proofs.Departing.{settings_stay}
use Rattle.zone_tables.proofs.OnePool.{All-answer}
use Rattle.ras_requests.specs.Plans.{Plan, Served, Settled, Naming, Asking}
use Rattle.ras_machine.specs.Courses.{IsPlacedIn}
use Rattle.ras_machine.specs.inside.Room.{MayBeKept}
use Rattle.ras_machine.specs.Keeping.{Progress, Task, answered, granted, in_progress, kept_after}
use Rattle.ras_machine.specs.Keeping.{may_wait, state_after, with_answered_pool}
use Rattle.ras_machine.specs.Machine as machine
use Rattle.ras_machine.specs.Machine.{Choices, Course, Ending}
use Rattle.ras_machine.specs.Soundness.{MayRequestUnits, Sound, WaitsInProgress}
use Rattle.ras_machine.specs.State.{State}
use Rattle.ras_machine.specs.Steps.{IsAllowed, IsUnusedIn, MayChoose}
use Rattle.ras_machine.specs.Turns.{number_after}
use Rattle.ras_machine.proofs.PlansFor.{IsPlanFor}
use Rattle.sound_steps.proofs.Courses.{SoundAlong}
use Rattle.sound_steps.proofs.Kept.{AreSoundKept, kept-dropped, kept-later, kept-served}
use Rattle.sound_steps.proofs.Serving.{IsSoundAfter, SoundBy, with_pools}
use Rattle.sound_steps.proofs.Tests.{differ}
use Rattle.sound_steps.proofs.Tables.{counts-alone, tables-asked, tables-heard}
use Rattle.sound_steps.proofs.Tables.{tables-without_endpoint, tables-without_silent}

-- What a course leaves, before the clock and the number of steps are set: sound tables, and
-- sound replies that are kept.
pub record IsSoundEnd (s after : State) : Type 0 where
  pub tables : SoundTables after.tables
  pub counts : CountsOneMore s.tables.pools after.tables.pools
  pub kept : AreSoundKept after.tables.config.delay after.tables.config.kept (s.steps + 1)
      after.kept
  pub least_number : 1 ≤ after.interrogation_number
  pub most_number : after.interrogation_number ≤ 65535

-- the number of an interrogation is in its range
next_least : (n : ℕ) → 1 ≤ number_after n
next_least n = by_test (n == 65535) where
  by_test : (b : Bool) → 1 ≤ (if b then 1 else n + 1)
  by_test true = omega arith
  by_test false = omega arith

-- and at most 65535
next_most : (n : ℕ) → n ≤ 65535 → number_after n ≤ 65535
next_most n few = by_test (n == 65535) refl where
  by_test : (b : Bool) → (n == 65535) ≡ b → (if b then 1 else n + 1) ≤ 65535
  by_test true is = omega arith
  by_test false is = omega (arith, few, differ n 65535 is)

module _ (s : State) (sound : Sound s) (now : ℕ) where
  kept_now : AreSoundKept s.tables.config.delay s.tables.config.kept s.steps s.kept
  kept_now = record {
    few = sound.few_kept;
    entries = sound.entries;
    births = sound.births;
    born = sound.born;
    waiting = sound.waiting;
  }

  -- and a step later, if nothing of them changes
  kept_then : AreSoundKept s.tables.config.delay s.tables.config.kept (s.steps + 1) s.kept
  kept_then = kept-later s.tables.config.delay s.tables.config.kept s.steps s.kept kept_now

  -- the pools counted nothing
  counted : CountsOneMore s.tables.pools s.tables.pools
  counted = counts_same s.tables.pools s.tables.pools (same_after_end s.tables.pools None)

  -- the tables change, and nothing else
  with_tables : (z : Tables) → IsSoundAfter s.tables z → z.config ≡ s.tables.config
      → IsSoundEnd s (record s { tables = z })
  with_tables z is stays = record {
    tables = is.sound;
    counts = is.counts;
    kept = subst (λ (config : ConfigParts). AreSoundKept config.delay config.kept (s.steps + 1)
        s.kept) (sym stays) kept_then;
    least_number = sound.least_number;
    most_number = sound.most_number;
  }

  -- nothing changes
  unchanged_end : IsSoundEnd s s
  unchanged_end = with_tables s.tables (record { sound = sound.tables; counts = counted }) refl

  -- the state that an outcome comes with
  ends_so : (o : Outcome) (t : State) (outcome : Outcome) (after : State) → IsSoundEnd s t
      → (let e : Ending = Some (o, t) in e) ≡ Some (outcome, after) → IsSoundEnd s after
  ends_so o t outcome after so is =
      subst (λ (e : Outcome × State). IsSoundEnd s e.1)
      (same_some (o, t) (outcome, after) is) so

  -- a request was served, and its reply is kept
  served_end : (task : Task) (given : Option (List ℕ)) (answer : Option Lend) (p : Progress)
      (outcome : Outcome) (after : State) → IsSoundAfter s.tables p.served.tables
      → p.served.tables.config ≡ s.tables.config → IsPlacedIn s task.job
      → MayBeKept task.job.occasion
      (state_after task.request p.served.reply p.waits (term_of s.tables.config now))
      → WaitsInProgress s.tables.config.delay
      (state_after task.request p.served.reply p.waits (term_of s.tables.config now))
      → machine.ended s now task given answer p ≡ Some (outcome, after) → IsSoundEnd s after
  served_end task given answer p outcome after tables stays placed may waits is =
      ends_so _ _ outcome after (record {
        tables = tables.sound;
        counts = tables.counts;
        kept = subst (λ (config : ConfigParts). AreSoundKept config.delay config.kept
            (s.steps + 1) (kept_after s now task p)) (sym stays)
            (kept-served s.tables.config.delay s.tables.config.kept s.steps s.kept kept_now
            task.job.key task.job.occasion placed
            (state_after task.request p.served.reply p.waits (term_of s.tables.config now))
            may waits);
        least_number = sound.least_number;
        most_number = sound.most_number;
      }) is

  -- a pool was asked
  module _ (task : Task) (ask : RequestedUnits) (lent : ℕ → Served) (refused : Served)
      (is_sound : SoundBy s.tables (Asking ask lent refused))
      (fits : IsPlanFor s.tables (MayRequestUnits task.request) (Asking ask lent refused))
      (placed : IsPlacedIn s task.job) where
    settings_so : (grant : Option ℕ)
        → (granted lent refused grant).tables.config ≡ s.tables.config
    settings_so None = fits.2
    settings_so (Some units) = fits.1 units

    -- and the tables are sound, whatever the pool answers
    tables_so : (answer : Lend)
        → IsAnswer (figures_at s.tables.pools ask.pool) ask.units answer
        → IsSoundAfter s.tables (with_pools (granted lent refused (grant_of ask.least answer))
        (pools_after_answer s.tables.pools ask answer))
    tables_so answer may = record {
      sound = is_sound.sound answer may;
      counts = λ most h. All-answer most s.tables.pools ask answer h is_sound.exists;
    }

    -- it is answered at once
    answered_end : (answer : Lend) (outcome : Outcome) (after : State)
        → IsAnswer (figures_at s.tables.pools ask.pool) ask.units answer
        → machine.ended s now task None (Some answer) (with_answered_pool s.tables ask answer
        (answered (granted lent refused (grant_of ask.least answer)))) ≡ Some (outcome, after)
        → IsSoundEnd s after
    answered_end answer outcome after may is =
        served_end task None (Some answer) (with_answered_pool s.tables ask answer
        (answered (granted lent refused (grant_of ask.least answer)))) outcome after
        (tables_so answer may) (settings_so (grant_of ask.least answer)) placed tt tt is

    -- or it is to wait, if it may
    waiting_end : (outcome : Outcome) (after : State) → may_wait task.job.occasion ≡ true
        → machine.ended s now task None (Some Wait) (with_answered_pool s.tables ask Wait
        (in_progress s.tables.config.delay task.request refused)) ≡ Some (outcome, after)
        → IsSoundEnd s after
    waiting_end outcome after may is =
        served_end task None (Some Wait) (with_answered_pool s.tables ask Wait
        (in_progress s.tables.config.delay task.request refused)) outcome after
        (tables_so Wait tt) fits.2 placed
        (may, (limits s.tables.config ((sound.tables).settings).ranges).some_retries)
        (fits.0, refl) is

    -- so it is with each answer
    asked_end : (answer : Lend) (outcome : Outcome) (after : State)
        → IsAnswer (figures_at s.tables.pools ask.pool) ask.units answer
        → machine.with_answer s now task ask lent refused (Some answer) ≡ Some (outcome, after)
        → IsSoundEnd s after
    asked_end (Lent n) outcome after may is = answered_end (Lent n) outcome after may is
    asked_end Refused outcome after may is = answered_end Refused outcome after may is
    asked_end Wait outcome after may is = by_wait (may_wait task.job.occasion) refl is where
      by_wait : (b : Bool) → may_wait task.job.occasion ≡ b
          → machine.ended s now task None (Some Wait) (with_answered_pool s.tables ask Wait
          (if b
          then in_progress s.tables.config.delay task.request refused
          else answered refused)) ≡ Some (outcome, after) → IsSoundEnd s after
      by_wait true waits is = waiting_end outcome after waits is
      by_wait false waits is = answered_end Wait outcome after may is

  -- a request is served by its plan, with what may be chosen for it
  planned_end : (task : Task) (plan : Plan) (choices : Choices) (outcome : Outcome)
      (after : State) → SoundBy s.tables plan
      → IsPlanFor s.tables (MayRequestUnits task.request) plan → IsPlacedIn s task.job
      → MayChoose s plan choices
      → machine.plan_ending s now task plan choices ≡ Some (outcome, after)
      → IsSoundEnd s after
  planned_end task (Settled served) choices outcome after tables fits placed may is =
      served_end task None None (answered served) outcome after tables fits placed tt tt is
  planned_end task (Naming named) choices outcome after tables fits placed may is =
      by_name choices.given may is where
        by_name : (given : Option (List ℕ)) → IfSome given (IsUnusedIn s)
            → machine.with_name s now task named given ≡ Some (outcome, after)
            → IsSoundEnd s after
        by_name None unused is = absurd (cc is)
        by_name (Some id) unused is =
            served_end task (Some id) None (answered (named id)) outcome after
            (tables id (unused.unused).not_live) (fits id) placed tt tt is
  planned_end task (Asking ask lent refused) choices outcome after tables fits placed may is =
      by_answer choices.answer may is where
        by_answer : (answer : Option Lend)
            → IfSome answer (IsAnswer (figures_at s.tables.pools ask.pool) ask.units)
            → machine.with_answer s now task ask lent refused answer ≡ Some (outcome, after)
            → IsSoundEnd s after
        by_answer None may is = absurd (cc is)
        by_answer (Some answer) may is =
            asked_end task ask lent refused tables fits placed answer outcome after may is

  -- what is done of itself
  done_end : (what : DueItem) (choices : Choices) (outcome : Outcome) (after : State)
      → machine.course_ending s now (machine.Doing what) choices ≡ Some (outcome, after)
      → IsSoundEnd s after
  done_end (item.RegistrationOver id) choices outcome after is =
      ends_so _ _ outcome after
      (with_tables (without_endpoint s.tables id) (record {
        sound = tables-without_endpoint s.tables sound.tables id;
        counts = counts-alone s.tables id;
      }) (settings_stay s.tables id)) is
  done_end (item.Interrogate id) choices outcome after is =
      ends_so _ _ outcome after (record {
        tables = tables-asked s.tables sound.tables now id;
        counts = counted;
        kept = kept_then;
        least_number = next_least s.interrogation_number;
        most_number = next_most s.interrogation_number sound.most_number;
      }) is
  done_end (item.Silent id) choices outcome after is =
      ends_so _ _ outcome after
      (with_tables (without_silent s.tables id) (record {
        sound = tables-without_silent s.tables sound.tables id;
        counts = counts-alone s.tables id;
      }) (settings_stay s.tables id)) is
  done_end (item.Retry born) choices outcome after is =
      ends_so _ _ outcome after unchanged_end is
  done_end (item.KeptOver born) choices outcome after is =
      ends_so _ _ outcome after (record {
        tables = sound.tables;
        counts = counted;
        kept = kept-dropped s.tables.config.delay s.tables.config.kept s.steps s.kept kept_now
            born;
        least_number = sound.least_number;
        most_number = sound.most_number;
      }) is
  done_end item.PoolTurn choices outcome after is =
      ends_so _ _ outcome after (record {
        tables = sound.tables;
        counts = counted;
        kept = kept_then;
        least_number = sound.least_number;
        most_number = sound.most_number;
      }) is

  -- so it is of each course, by choices that may be made
  pub ended_sound : (c : Course) (choices : Choices) (outcome : Outcome) (after : State)
      → SoundAlong s now c → IsAllowed s now c choices
      → machine.course_ending s now c choices ≡ Some (outcome, after) → IsSoundEnd s after
  ended_sound (machine.Ignoring cause) choices outcome after so allowed is =
      ends_so _ _ outcome after unchanged_end is
  ended_sound (machine.Hearing endpoint) choices outcome after so allowed is =
      ends_so _ _ outcome after (record {
        tables = tables-heard s.tables sound.tables now endpoint;
        counts = counted;
        kept = kept_then;
        least_number = sound.least_number;
        most_number = sound.most_number;
      }) is
  ended_sound (machine.Repeating datagram) choices outcome after so allowed is =
      ends_so _ _ outcome after unchanged_end is
  ended_sound (machine.Serving task) choices outcome after so allowed is =
      planned_end task task.plan choices outcome after so.tables so.fits (so.placed allowed.0)
      allowed.1 is
  ended_sound (machine.Doing what) choices outcome after so allowed is =
      done_end what choices outcome after is
  ended_sound machine.Idle choices outcome after so allowed is =
      ends_so _ _ outcome after unchanged_end is
