-- What is decided about a request, once it is carried out and its reply is kept, is
-- what it comes to.
use Rattle.std.proofs.Common.{◌≡◌, ◌≤◌, ◌+◌, ◌∙◌, ℕ, length, List, refl, sym, ap, subst, Some, None}
use Rattle.std.specs.Prelude.{Err, IfSome, Ok, OnOk, Option, Result}
use Rattle.keyed.proofs.Decide.{same_some}
use Rattle.ras_module.specs.declared.reply.Reply.{Reply}
use Rattle.ras_module.specs.declared.reply.TheConstants.Reply as reply_octets
use Rattle.ras_module.specs.declared.request.Request.{Request}
use Rattle.ras_writing.specs.Replies.{encoding_of}
use Rattle.kept_replies.specs.declared.key.KeptKey.{KeptKey}
use Rattle.kept_replies.specs.Kept.{KeptReplies}
use Rattle.kept_replies.specs.declared.entry.KeptState.TheVariants.{Done}
use Rattle.zone_tables.specs.declared.change.Change.{Change}
use Rattle.ras_requests.specs.declared.plan.Settlement.{Settlement}
use Rattle.ras_machine.specs.declared.job.Job.{Job}
use Rattle.ras_machine.specs.declared.job.Occasion.{Occasion}
use Rattle.ras_machine.specs.declared.job.Occasion.TheVariants.{Again, Anew, First}
use Rattle.zone_events.specs.declared.outcome.Outcome.{Outcome}
use Rattle.zone_tables.specs.Leaving.{AreSameButLent}
use Rattle.zone_tables.specs.Pools.{RequestedUnits}
use Rattle.zone_tables.specs.Tables.{Tables}
use Rattle.ras_machine.specs.State.{State}
use Rattle.ras_requests.specs.Plans.{Served, Plan, Settled, Naming, Asking, with_heard}
use Rattle.ras_machine.specs.Keeping.{Task, answered, dropped_for, kept_with, plan_at}
use Rattle.ras_machine.specs.Machine.{Serving, ended, note_at, plan_ending}
use Rattle.pools.specs.declared.interface.Figures.{Figures}
use Rattle.pools.specs.declared.interface.Lend.{Lend}
use Rattle.ras_requests.specs.Planned.{served}
use Rattle.ras_requests.specs.Requests.{endpoint_of}
use Rattle.zone_tables.specs.Changes.{after_change}
use Rattle.ras_machine.specs.Courses.{heard_at, resolved, Does}
use Rattle.ras_machine.specs.Soundness.{AreBornBefore}
use Rattle.zone_tables.specs.Soundness.{CountsOneMore}
use Rattle.ras_machine.specs.Steps.{IsUnusedIn, IsTimely, MayChoose, ask_in_plan, choices_of}
use Rattle.ras_machine.specs.Steps.{IsAskedOnce, pools_after_ask}
use Rattle.zone_tables.proofs.ButLent.{counts_same, same_after_change}
use Rattle.ras_machine.proofs.Dropping.{born_kept_with}

-- the tables after a change, in which the endpoint was heard
abbrev pub tables_after : Tables → ℕ → Occasion → Option (List ℕ) → Change → Tables
tables_after z now occasion endpoint change =
    heard_at (after_change now endpoint change z) occasion now endpoint

module _ (s : State) (now : ℕ) (key : KeptKey) (request : Request)
    (reply : Reply) (change : Change) where
  abbrev pub task_by : Occasion → Plan → Task
  task_by occasion plan = record {
    job = record { key = key; occasion = occasion };
    request = request;
    plan = plan;
  }

  abbrev pub outcome_by : Occasion → Option (List ℕ) → Outcome
  outcome_by occasion given = record {
    answer = None;
    output = Some (record { to = key.source; bytes = encoding_of reply });
    note = note_at occasion;
    dropped = dropped_for occasion;
    given = given;
  }

  abbrev pub state_by : Occasion → Option (List ℕ) → State
  state_by occasion endpoint = record s {
    tables = tables_after s.tables now occasion endpoint change;
    kept = kept_with s.kept key occasion s.steps (Done reply (now + s.tables.config.window));
  }

  abbrev pub served_by : Option (List ℕ) → Served
  served_by endpoint = record {
    reply = reply;
    tables = after_change now endpoint change s.tables;
  }

  pub answer_by : (occasion : Occasion) (endpoint : Option (List ℕ)) (plan : Plan)
      (given : Option (List ℕ))
      → resolved plan given ≡ Some (served_by endpoint)
      → plan_ending s now (task_by occasion (plan_at occasion now endpoint plan))
      (plan_at occasion now endpoint plan) (choices_of (outcome_by occasion given))
      ≡ Some (outcome_by occasion given, state_by occasion endpoint)
  answer_by (First dropped) None (Settled served) None is =
      subst (λ (v : Served). plan_ending s now
      (task_by (First dropped) (plan_at (First dropped) now None (Settled v)))
      (plan_at (First dropped) now None (Settled v)) (choices_of (outcome_by (First dropped) None))
      ≡ Some (outcome_by (First dropped) None, state_by (First dropped) None))
      (sym (same_some served (served_by None) is)) refl
  answer_by Anew None (Settled served) None is =
      subst (λ (v : Served). plan_ending s now
      (task_by Anew (plan_at Anew now None (Settled v)))
      (plan_at Anew now None (Settled v)) (choices_of (outcome_by Anew None))
      ≡ Some (outcome_by Anew None, state_by Anew None))
      (sym (same_some served (served_by None) is)) refl
  answer_by (First dropped) (Some id) (Settled served) None is =
      subst (λ (v : Served). plan_ending s now
      (task_by (First dropped) (plan_at (First dropped) now (Some id) (Settled v)))
      (plan_at (First dropped) now (Some id) (Settled v))
      (choices_of (outcome_by (First dropped) None))
      ≡ Some (outcome_by (First dropped) None, state_by (First dropped) (Some id)))
      (sym (same_some served (served_by (Some id)) is)) refl
  answer_by Anew (Some id) (Settled served) None is =
      subst (λ (v : Served). plan_ending s now
      (task_by Anew (plan_at Anew now (Some id) (Settled v)))
      (plan_at Anew now (Some id) (Settled v))
      (choices_of (outcome_by Anew None))
      ≡ Some (outcome_by Anew None, state_by Anew (Some id)))
      (sym (same_some served (served_by (Some id)) is)) refl
  answer_by (Again born left) endpoint (Settled served) None is =
      subst (λ (v : Served). plan_ending s now (task_by (Again born left) (Settled v)) (Settled v)
      (choices_of (outcome_by (Again born left) None))
      ≡ Some (outcome_by (Again born left) None, state_by (Again born left) endpoint))
      (sym (same_some served (served_by endpoint) is)) refl
  answer_by occasion endpoint (Settled served) (Some id) is = absurd (cc is)
  answer_by occasion endpoint (Naming named) None is = absurd (cc is)
  answer_by (First dropped) None (Naming named) (Some id) is =
      ap (λ (v : Served). ended s now
      (task_by (First dropped) (plan_at (First dropped) now None (Naming named))) (Some id) None
      (answered v)) (same_some (named id) (served_by None) is)
  answer_by Anew None (Naming named) (Some id) is =
      ap (λ (v : Served). ended s now
      (task_by Anew (plan_at Anew now None (Naming named))) (Some id) None
      (answered v)) (same_some (named id) (served_by None) is)
  answer_by (First dropped) (Some endpoint) (Naming named) (Some id) is =
      ap (λ (v : Served). ended s now
      (task_by (First dropped) (plan_at (First dropped) now (Some endpoint) (Naming named)))
      (Some id) None
      (answered (with_heard now (Some endpoint) v)))
      (same_some (named id) (served_by (Some endpoint)) is)
  answer_by Anew (Some endpoint) (Naming named) (Some id) is =
      ap (λ (v : Served). ended s now
      (task_by Anew (plan_at Anew now (Some endpoint) (Naming named)))
      (Some id) None
      (answered (with_heard now (Some endpoint) v)))
      (same_some (named id) (served_by (Some endpoint)) is)
  answer_by (Again born left) endpoint (Naming named) (Some id) is =
      ap (λ (v : Served). ended s now (task_by (Again born left) (Naming named)) (Some id) None
      (answered v)) (same_some (named id) (served_by endpoint) is)
  answer_by occasion endpoint (Asking ask lent refused) given is = absurd (cc is)

  pub may_choose : (occasion : Occasion) (endpoint : Option (List ℕ)) (plan : Plan)
      (given : Option (List ℕ))
      → resolved plan given ≡ Some (served_by endpoint) → IfSome given (IsUnusedIn s)
      → MayChoose s (plan_at occasion now endpoint plan) (choices_of (outcome_by occasion given))
  may_choose (First dropped) endpoint (Settled served) given is unused = tt
  may_choose Anew endpoint (Settled served) given is unused = tt
  may_choose (Again born left) endpoint (Settled served) given is unused = tt
  may_choose (First dropped) endpoint (Naming named) given is unused = unused
  may_choose Anew endpoint (Naming named) given is unused = unused
  may_choose (Again born left) endpoint (Naming named) given is unused = unused
  may_choose occasion endpoint (Asking ask lent refused) given is unused = absurd (cc is)

  pub nothing_asked : (occasion : Occasion) (endpoint : Option (List ℕ)) (plan : Plan)
      (given : Option (List ℕ))
      → resolved plan given ≡ Some (served_by endpoint)
      → ask_in_plan (plan_at occasion now endpoint plan) ≡ None
  nothing_asked (First dropped) endpoint (Settled served) given is = refl
  nothing_asked Anew endpoint (Settled served) given is = refl
  nothing_asked (Again born left) endpoint (Settled served) given is = refl
  nothing_asked (First dropped) endpoint (Naming named) given is = refl
  nothing_asked Anew endpoint (Naming named) given is = refl
  nothing_asked (Again born left) endpoint (Naming named) given is = refl
  nothing_asked occasion endpoint (Asking ask lent refused) given is = absurd (cc is)

  pools_are : (occasion : Occasion) (endpoint : Option (List ℕ))
      → (tables_after s.tables now occasion endpoint change).pools
      ≡ (after_change now endpoint change s.tables).pools
  pools_are (First dropped) None = refl
  pools_are Anew None = refl
  pools_are (First dropped) (Some id) = refl
  pools_are Anew (Some id) = refl
  pools_are (Again born left) endpoint = refl

  pub does_by : (occasion : Occasion) (endpoint : Option (List ℕ)) (plan : Plan)
      (given : Option (List ℕ))
      → resolved plan given ≡ Some (served_by endpoint) → IfSome given (IsUnusedIn s)
      → IsTimely s now occasion
      → AreBornBefore s.steps s.kept → length (encoding_of reply) ≤ reply_octets.MOST
      → Does s now
      (Serving (task_by occasion (plan_at occasion now endpoint plan)))
      (outcome_by occasion given) (state_by occasion endpoint)
  does_by occasion endpoint plan given is unused timely before few = record {
    allowed = (timely, may_choose occasion endpoint plan given is unused);
    makes = answer_by occasion endpoint plan given is;
    pools = subst (λ (ask : Option RequestedUnits). AreSameButLent
        (pools_after_ask s.tables.pools ask None) (state_by occasion endpoint).tables.pools)
        (sym (nothing_asked occasion endpoint plan given is))
        (subst (λ (pools : List Figures). AreSameButLent s.tables.pools pools)
        (sym (pools_are occasion endpoint)) (same_after_change now endpoint change s.tables));
    counts = subst (λ (pools : List Figures). CountsOneMore s.tables.pools pools)
        (sym (pools_are occasion endpoint))
        (counts_same s.tables.pools (after_change now endpoint change s.tables).pools
        (same_after_change now endpoint change s.tables));
    births = λ h. born_kept_with s.kept s.steps before key occasion
        (Done reply (now + s.tables.config.window));
    few = few;
  }

-- The same, of what the code has.
pub does_carried : (old : State) (now : ℕ) (job : Job) (endpoint : Option (List ℕ)) (d : Settlement)
    (given : Option (List ℕ)) (tables : Tables) (kept : KeptReplies)
    → IfSome given (IsUnusedIn old) → IsTimely old now job.occasion
    → AreBornBefore old.steps old.kept → length (encoding_of d.reply) ≤ reply_octets.MOST
    → tables ≡ tables_after old.tables now job.occasion endpoint d.change
    → kept ≡ kept_with old.kept job.key job.occasion old.steps
    (Done d.reply (now + old.tables.config.window))
    → (plan : Plan) (request : Request) → endpoint_of request ≡ endpoint
    → resolved plan given ≡ Some (served old.tables now request d)
    → Does old now (Serving (record {
      job = job;
      request = request;
      plan = plan_at job.occasion now endpoint plan;
    })) (record {
      answer = None;
      output = Some (record { to = job.key.source; bytes = encoding_of d.reply });
      note = note_at job.occasion;
      dropped = dropped_for job.occasion;
      given = given;
    }) (record old { tables = tables; kept = kept })
does_carried s now job endpoint d given tables kept unused timely before few tables_is kept_is
    plan request names is =
    let course = Serving (record {
      job = job;
      request = request;
      plan = plan_at job.occasion now endpoint plan;
    }) in
    let outcome = outcome_by s now job.key request d.reply d.change job.occasion given in
    subst (λ (z : Tables). Does s now course outcome (record s { tables = z; kept = kept }))
    (sym tables_is)
    (subst (λ (k : KeptReplies). Does s now course outcome (record s {
      tables = tables_after s.tables now job.occasion endpoint d.change;
      kept = k;
    })) (sym kept_is)
    (does_by s now job.key request d.reply d.change
    job.occasion endpoint plan given
    (is ∙ ap (λ (who : Option (List ℕ)).
    Some (served_by s now job.key request d.reply d.change who)) names) unused timely before few))

-- no pool is asked for what was decided
pub asks_nothing : (z : Tables) (now : ℕ) (request : Request) (d : Settlement) (occasion : Occasion)
    (endpoint : Option (List ℕ)) (plan : Plan) (given : Option (List ℕ))
    → resolved plan given ≡ Some (served z now request d)
    → ask_in_plan (plan_at occasion now endpoint plan) ≡ None
asks_nothing z now request d (First dropped) None (Settled s) given is = refl
asks_nothing z now request d Anew None (Settled s) given is = refl
asks_nothing z now request d (First dropped) (Some id) (Settled s) given is = refl
asks_nothing z now request d Anew (Some id) (Settled s) given is = refl
asks_nothing z now request d (Again born left) endpoint (Settled s) given is = refl
asks_nothing z now request d (First dropped) None (Naming named) given is = refl
asks_nothing z now request d Anew None (Naming named) given is = refl
asks_nothing z now request d (First dropped) (Some id) (Naming named) given is = refl
asks_nothing z now request d Anew (Some id) (Naming named) given is = refl
asks_nothing z now request d (Again born left) endpoint (Naming named) given is = refl
asks_nothing z now request d occasion endpoint (Asking ask lent refused) given is = absurd (cc is)

-- if nobody is asked, who lends stays as it was
pub asked_nothing : {L : Type 0} (lends : L → List Figures → RequestedUnits → Lend → L → Type 0)
    (old : L) (pools : List Figures) (ask : Option RequestedUnits) (answer : Option Lend)
    → ask ≡ None → IsAskedOnce lends old pools ask answer old
asked_nothing lends old pools ask answer none =
    subst (λ (a : Option RequestedUnits). IsAskedOnce lends old pools a answer old) (sym none) refl

-- what holds if there is a result, in other words
pub on_ok_with : {A B P Q : Type 0} (r : Result A B) → OnOk r P → (P → Q) → OnOk r Q
on_ok_with (Ok x) holds so = so holds
on_ok_with (Err e) holds so = tt
