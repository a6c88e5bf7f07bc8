-- What follows from a pool's answer about a request is what the request comes to.
use Rattle.std.proofs.Common.{◌≡◌, ◌≤◌, ◌+◌, ℕ, length, Bool, true, false, List, refl, sym, ◌∙◌, ap}
use Rattle.std.proofs.Common.{subst, Some, None}
use Rattle.std.specs.Prelude.{Option, All, IsSome, if◌then◌else◌}
use Rattle.ras_module.specs.declared.reply.Reply.{Reply}
use Rattle.ras_module.specs.declared.reply.TheConstants.Reply as reply_octets
use Rattle.ras_module.specs.declared.request.Request.{Request}
use Rattle.ras_writing.specs.Replies.{encoding_of}
use Rattle.kept_replies.specs.declared.key.KeptKey.{KeptKey}
use Rattle.kept_replies.specs.Kept.{KeptReplies}
use Rattle.pools.specs.declared.interface.Lend.{Lend}
use Rattle.pools.specs.declared.interface.Lend.TheVariants.{Lent, Refused, Wait}
use Rattle.pools.specs.declared.interface.Figures.{Figures}
use Rattle.pools.specs.Account.{IsAnswer}
use Rattle.zone_tables.specs.declared.unit_request.UnitRequest.{UnitRequest}
use Rattle.ras_machine.specs.declared.job.Job.{Job}
use Rattle.ras_machine.specs.declared.job.Occasion.{Occasion}
use Rattle.ras_machine.specs.declared.job.Occasion.TheVariants.{Again, Anew, First}
use Rattle.zone_events.specs.declared.outcome.Outcome.{Outcome}
use Rattle.ras_machine.specs.State.{State}
use Rattle.zone_tables.specs.Leaving.{AreSameButLent}
use Rattle.zone_tables.specs.Tables.{Tables}
use Rattle.ras_requests.specs.Plans.{Served, Plan, Asking, with_heard}
use Rattle.zone_tables.specs.Pools.{RequestedUnits, figures_at, grant_of, pools_after_answer}
use Rattle.ras_requests.specs.Requests.{seq_of}
use Rattle.ras_machine.specs.Keeping.{Progress, Task, answered, granted}
use Rattle.ras_machine.specs.Keeping.{dropped_for, in_progress}
use Rattle.ras_machine.specs.Keeping.{kept_with, plan_at, state_after, waits, with_answered_pool}
use Rattle.zone_config.specs.Terms.{term_of}
use Rattle.ras_machine.specs.Machine.{Ending, Serving, ended, note_at, plan_ending}
use Rattle.ras_requests.specs.Planned.{RequestsUnits, asker_of, granted_by, refused_by}
use Rattle.ras_requests.specs.Replies.{reply_of, reply_with_grant}
use Rattle.zone_tables.specs.UnitRequests.{calls_after_answer, calls_with_grant, units_requested}
use Rattle.ras_machine.specs.Courses.{heard_at, Does}
use Rattle.ras_machine.specs.Soundness.{AreBornBefore}
use Rattle.zone_tables.specs.Soundness.{HasCounts}
use Rattle.ras_machine.specs.Steps.{IsTimely, MayChoose, ask_in_plan, choices_of, pools_after_ask}
use Rattle.zone_tables.proofs.ButLent.{same_after_end}
use Rattle.zone_tables.proofs.OnePool.{All-answer}
use Rattle.ras_machine.proofs.Dropping.{born_kept_with}

module _ (s : State) (now : ℕ) (key : KeptKey) (request : Request)
    (id : List ℕ) (q : UnitRequest) where
  abbrev pub asking : Plan
  asking =
      Asking (units_requested q) (granted_by s.tables request q) (refused_by s.tables request q)

  abbrev reply_to : Lend → Bool → Reply
  reply_to answer w = reply_of (seq_of request) q answer w s.tables.config.delay

  abbrev pub asked_task : Occasion → Task
  asked_task occasion = record {
    job = record { key = key; occasion = occasion };
    request = request;
    plan = plan_at occasion now (Some id) asking;
  }

  abbrev pub asked_outcome : Occasion → Lend → Reply → Outcome
  asked_outcome occasion answer reply = record {
    answer = Some answer;
    output = Some (record { to = key.source; bytes = encoding_of reply });
    note = note_at occasion;
    dropped = dropped_for occasion;
    given = None;
  }

  abbrev pub asked_tables : Occasion → Lend → Tables
  asked_tables occasion answer = heard_at (record s.tables {
    calls = calls_after_answer (asker_of request) q answer s.tables.calls;
    pools = pools_after_answer s.tables.pools (units_requested q) answer;
  }) occasion now (Some id)

  abbrev pub asked_kept : Occasion → Bool → Reply → KeptReplies
  asked_kept occasion w reply =
      kept_with s.kept key occasion s.steps
      (state_after request reply w (term_of s.tables.config now))

  abbrev pub asked_state : Occasion → Lend → Bool → Reply → State
  asked_state occasion answer w reply = record s {
    tables = asked_tables occasion answer;
    kept = asked_kept occasion w reply;
  }

  abbrev asked_answer : Occasion → Lend → Bool → Reply → Ending
  asked_answer occasion answer w reply =
      Some (asked_outcome occasion answer reply, asked_state occasion answer w reply)

  -- what a pool's answer makes of the request, once it is known whether it is to wait
  abbrev progress : (ℕ → Served) → Served → Lend → Bool → Progress
  progress lent refused answer w =
      with_answered_pool s.tables (units_requested q) answer (if w
      then in_progress s.tables.config.delay request refused
      else answered (granted lent refused (grant_of q.least answer)))

  abbrev came_to : Occasion → (ℕ → Served) → Served → Lend → Bool → Ending
  came_to occasion lent refused answer w =
      ended s now (asked_task occasion) None (Some answer) (progress lent refused answer w)

  -- how the request is served on an occasion, if it gets units and if it gets none
  abbrev lent_at : Occasion → ℕ → Served
  lent_at (First dropped) units = with_heard now (Some id) (granted_by s.tables request q units)
  lent_at Anew units = with_heard now (Some id) (granted_by s.tables request q units)
  lent_at (Again born left) units = granted_by s.tables request q units

  abbrev refused_at : Occasion → Served
  refused_at (First dropped) = with_heard now (Some id) (refused_by s.tables request q)
  refused_at Anew = with_heard now (Some id) (refused_by s.tables request q)
  refused_at (Again born left) = refused_by s.tables request q

  abbrev granted_answer : Occasion → Lend → Option ℕ → Ending
  granted_answer occasion answer grant = Some (
    asked_outcome occasion answer (reply_with_grant (seq_of request) q.purpose grant),
    record s {
      tables = heard_at (record s.tables {
        calls = calls_with_grant (asker_of request) q grant s.tables.calls;
        pools = pools_after_answer s.tables.pools (units_requested q) answer;
      }) occasion now (Some id);
      kept = asked_kept occasion false (reply_with_grant (seq_of request) q.purpose grant);
    },
  )

  by_grant : (occasion : Occasion) (answer : Lend) (grant : Option ℕ)
      → ended s now (asked_task occasion) None (Some answer)
      (with_answered_pool s.tables (units_requested q) answer
      (answered (granted (lent_at occasion) (refused_at occasion) grant)))
      ≡ granted_answer occasion answer grant
  by_grant (First dropped) answer None = refl
  by_grant Anew answer None = refl
  by_grant (First dropped) answer (Some units) = refl
  by_grant Anew answer (Some units) = refl
  by_grant (Again born left) answer None = refl
  by_grant (Again born left) answer (Some units) = refl

  -- a reply to a request that is answered at once, or in progress
  lent_now : (occasion : Occasion) (units : ℕ)
      → plan_ending s now (asked_task occasion) (plan_at occasion now (Some id) asking)
      (choices_of (asked_outcome occasion (Lent units)
      (reply_to (Lent units) false)))
      ≡ asked_answer occasion (Lent units) false
      (reply_to (Lent units) false)
  lent_now (First dropped) units =
      by_grant (First dropped) (Lent units) (grant_of q.least (Lent units))
  lent_now Anew units =
      by_grant Anew (Lent units) (grant_of q.least (Lent units))
  lent_now (Again born left) units =
      by_grant (Again born left) (Lent units) (grant_of q.least (Lent units))

  refused_now : (occasion : Occasion)
      → plan_ending s now (asked_task occasion) (plan_at occasion now (Some id) asking)
      (choices_of (asked_outcome occasion Refused (reply_to Refused false)))
      ≡ asked_answer occasion Refused false (reply_to Refused false)
  refused_now (First dropped) = refl
  refused_now Anew = refl
  refused_now (Again born left) = refl

  waits_again : (born left : ℕ) (w : Bool) → waits (Again born left) Wait ≡ w
      → plan_ending s now (asked_task (Again born left)) asking
      (choices_of (asked_outcome (Again born left) Wait (reply_to Wait w)))
      ≡ asked_answer (Again born left) Wait w (reply_to Wait w)
  waits_again born left true is =
      ap (λ w. came_to (Again born left) (granted_by s.tables request q)
      (refused_by s.tables request q) Wait w) is
  waits_again born left false is =
      ap (λ w. came_to (Again born left) (granted_by s.tables request q)
      (refused_by s.tables request q) Wait w) is

  pub asked_by : (occasion : Occasion) (answer : Lend) (w : Bool) → w ≡ waits occasion answer
      → plan_ending s now (asked_task occasion) (plan_at occasion now (Some id) asking)
      (choices_of (asked_outcome occasion answer (reply_to answer w)))
      ≡ asked_answer occasion answer w (reply_to answer w)
  asked_by occasion (Lent units) false is = lent_now occasion units
  asked_by occasion (Lent units) true is = absurd (cc is)
  asked_by occasion Refused false is = refused_now occasion
  asked_by occasion Refused true is = absurd (cc is)
  asked_by (First dropped) Wait true is = refl
  asked_by Anew Wait true is = refl
  asked_by (First dropped) Wait false is = absurd (cc is)
  asked_by Anew Wait false is = absurd (cc is)
  asked_by (Again born left) Wait w is = waits_again born left w (sym is)

  may_choose : (occasion : Occasion) (answer : Lend) (reply : Reply)
      → IsAnswer (figures_at s.tables.pools q.pool) q.units answer
      → MayChoose s (plan_at occasion now (Some id) asking)
      (choices_of (asked_outcome occasion answer reply))
  may_choose (First dropped) answer reply fits = fits
  may_choose Anew answer reply fits = fits
  may_choose (Again born left) answer reply fits = fits

  pub ask_is : (occasion : Occasion)
      → ask_in_plan (plan_at occasion now (Some id) asking) ≡ Some (units_requested q)
  ask_is (First dropped) = refl
  ask_is Anew = refl
  ask_is (Again born left) = refl

  pools_are : (occasion : Occasion) (answer : Lend)
      → (asked_tables occasion answer).pools ≡ pools_after_answer s.tables.pools (units_requested
      q) answer
  pools_are (First dropped) answer = refl
  pools_are Anew answer = refl
  pools_are (Again born left) answer = refl

  pub does_asked : (occasion : Occasion) (answer : Lend) (w : Bool)
      (plan : Plan) → RequestsUnits s.tables request plan q
      → w ≡ waits occasion answer
      → IsAnswer (figures_at s.tables.pools q.pool) q.units answer
      → IsTimely s now occasion → AreBornBefore s.steps s.kept
      → length (encoding_of (reply_to answer w)) ≤ reply_octets.MOST
      → Does s now (Serving (record {
        job = record { key = key; occasion = occasion };
        request = request;
        plan = plan_at occasion now (Some id) plan;
      })) (asked_outcome occasion answer (reply_to answer w))
      (asked_state occasion answer w (reply_to answer w))
  does_asked occasion answer w plan asks w_is fits timely before few =
      let reply = reply_to answer w in
      subst (λ (p : Plan). Does s now (Serving (record {
        job = record { key = key; occasion = occasion };
        request = request;
        plan = plan_at occasion now (Some id) p;
      })) (asked_outcome occasion answer reply) (asked_state occasion answer w reply))
      (sym asks.is) (record {
        allowed = (timely, may_choose occasion answer reply fits);
        makes = asked_by occasion answer w w_is;
        pools = subst (λ (ask : Option RequestedUnits). AreSameButLent
            (pools_after_ask s.tables.pools ask (Some answer)) (asked_tables occasion answer).pools)
            (sym (ask_is occasion))
            (subst (λ (pools : List Figures). AreSameButLent
            (pools_after_answer s.tables.pools (units_requested q) answer) pools)
            (sym (pools_are occasion answer))
            (same_after_end (pools_after_answer s.tables.pools (units_requested q) answer) None));
        counts = λ most h. subst (λ (pools : List Figures). All (HasCounts (most + 1)) pools)
            (sym (pools_are occasion answer))
            (All-answer most s.tables.pools (units_requested q) answer h (asks.may).pool);
        births = λ h. born_kept_with s.kept s.steps before key occasion
            (state_after request reply w (term_of s.tables.config now));
        few = few;
      })

-- a plan by which units are requested asks for them
pub asks_by : (z : Tables) (request : Request) (plan : Plan) (q : UnitRequest)
    → RequestsUnits z request plan q
    → (occasion : Occasion) (now : ℕ) (endpoint : Option (List ℕ))
    → ask_in_plan (plan_at occasion now endpoint plan) ≡ Some (units_requested q)
asks_by z request plan q asks (First dropped) now None =
    ap (λ p. ask_in_plan (plan_at (First dropped) now None p)) asks.is
asks_by z request plan q asks Anew now None =
    ap (λ p. ask_in_plan (plan_at Anew now None p)) asks.is
asks_by z request plan q asks (First dropped) now (Some id) =
    ap (λ p. ask_in_plan (plan_at (First dropped) now (Some id) p)) asks.is
asks_by z request plan q asks Anew now (Some id) =
    ap (λ p. ask_in_plan (plan_at Anew now (Some id) p)) asks.is
asks_by z request plan q asks (Again born left) now endpoint = ap ask_in_plan asks.is

-- the same, of what the code has: the request names an endpoint
pub does_answered : (old : State) (now : ℕ) (job : Job) (endpoint : Option (List ℕ))
    → IsSome endpoint
    → (request : Request) (q : UnitRequest) (answer : Lend) (w : Bool) (reply : Reply)
    (tables : Tables) (kept : KeptReplies)
    → w ≡ waits job.occasion answer
    → IsAnswer (figures_at old.tables.pools q.pool) q.units answer
    → IsTimely old now job.occasion → AreBornBefore old.steps old.kept
    → reply ≡ reply_of (seq_of request) q answer w old.tables.config.delay
    → length (encoding_of reply) ≤ reply_octets.MOST
    → tables ≡ heard_at (record old.tables {
      calls = calls_after_answer (asker_of request) q answer old.tables.calls;
      pools = pools_after_answer old.tables.pools (units_requested q) answer;
    }) job.occasion now endpoint
    → kept ≡ kept_with old.kept job.key job.occasion old.steps
    (state_after request reply w (term_of old.tables.config now))
    → (plan : Plan) → RequestsUnits old.tables request plan q
    → Does old now (Serving (record {
      job = job;
      request = request;
      plan = plan_at job.occasion now endpoint plan;
    })) (record {
      answer = Some answer;
      output = Some (record { to = job.key.source; bytes = encoding_of reply });
      note = note_at job.occasion;
      dropped = dropped_for job.occasion;
      given = None;
    }) (record old { tables = tables; kept = kept })
does_answered s now job None there request q answer w reply tables kept w_is fits timely before
    reply_is few tables_is kept_is plan asks = absurd (cc there)
does_answered s now job (Some id) there request q answer w reply tables kept w_is fits timely
    before reply_is few tables_is kept_is plan asks =
    let told = reply_of (seq_of request) q answer w s.tables.config.delay in
    let does = does_asked s now job.key request id q job.occasion answer w plan asks w_is fits
    timely before
    (subst (λ (r : Reply). length (encoding_of r) ≤ reply_octets.MOST) reply_is few) in
    let course = Serving (record {
      job = job;
      request = request;
      plan = plan_at job.occasion now (Some id) plan;
    }) in
    let kept_so = kept_is ∙ ap (λ (r : Reply). kept_with s.kept job.key job.occasion s.steps
    (state_after request r w (term_of s.tables.config now))) reply_is in
    subst (λ (r : Reply). Does s now course
    (asked_outcome s now job.key request id q job.occasion answer r)
    (record s { tables = tables; kept = kept })) (sym reply_is)
    (subst (λ (z : Tables). Does s now course
    (asked_outcome s now job.key request id q job.occasion answer told)
    (record s { tables = z; kept = kept })) (sym tables_is)
    (subst (λ (k : KeptReplies). Does s now course
    (asked_outcome s now job.key request id q job.occasion answer told)
    (record s {
      tables = asked_tables s now job.key request id q job.occasion answer;
      kept = k;
    })) (sym kept_so) does))
