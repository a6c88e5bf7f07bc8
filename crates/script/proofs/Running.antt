-- Runs of a script go on by one deed, stop at one, and end with a flush.
use Rattle.std.proofs.Common.{◌≡◌, ℕ, zero, suc, ◌+◌, ◌<◌, List, [], ◌∷◌, ◌++◌, take, length}
use Rattle.std.proofs.Common.{Option, Result, Ok, Err, Bool, IsTrue, ap, refl, subst, sym, ◌∙◌}
use Rattle.std.proofs.Common.{add-one, append-nil, append_assoc, arith, length-append}
use Rattle.std.proofs.lemmas.List.{length_push}
use Rattle.std.proofs.Math.Seq.{take-append_seam}
use Rattle.std.specs.Io.KnownBytes.{Keeps, Appends}
use Rattle.std.proofs.KnownBytes.{Appends-kept, Appends-nil, Appends-trans, Keeps-trans}
use Rattle.pools.specs.Account.{Account}
use Rattle.pools.specs.declared.fault.ReplaceFault.{ReplaceFault}
use Rattle.pools.specs.declared.fault.ReplaceFault.TheVariants as replace
use Rattle.zone_events.specs.declared.change.Change.{Change}
use Rattle.zone_events.specs.declared.change.Change.TheVariants as changes
use Rattle.zone_events.specs.declared.outcome.Outcome.{Outcome}
use Rattle.ras_core.specs.Replacing.{IsRefusal}
use Rattle.ras_core.specs.Running.{Running}
use Rattle.ras_core.specs.Runs.{ChangeStep, Run, RunningChange, RunningRun}
use Rattle.ras_machine.specs.Machine.{most_steps}
use Rattle.script.specs.declared.fault.RunFault.{RunFault}
use Rattle.script.specs.declared.fault.RunFault.TheVariants.{Memory, Closed, Stream, WrongPools}
use Rattle.script.specs.declared.event.Replacement.{Replacement}
use Rattle.script.specs.declared.event.ScriptEvent.{ScriptEvent}
use Rattle.script.specs.Deeds.{Deed, Handle, Offer, DeedStep, DeedsRun, IsRefused}
use Rattle.script.specs.Deeds.{deeds_of, steps_of}
use Rattle.script.specs.Prints.{Upshot, upshot_line, upshot_lines}
use Rattle.script.specs.Runs.{RunsAndPrints, IsDeedAnswer, IsRunOf, IsFlushedAfter}
use Rattle.script.proofs.Printing.{lines_push}

pub nothing_left : {X : Type 0} (xs : List X) → length xs ≡ 0 → xs ≡ []
nothing_left [] none = refl
nothing_left (x ∷ xs) none = absurd (omega (arith, none))

-- each step of a gatekeeper is one of its machine
step_in : (old new : Running) (change : Change) (outcome : Outcome)
    → RunningChange old change outcome new → ChangeStep old.state change outcome new.state
step_in old new (changes.Event event) outcome step = step.step
step_in old new (changes.PoolChange replacement) outcome step = step.step

states_in : (old new : Running) (entries : List (Change × Outcome))
    → RunningRun old entries new → Run old.state entries new.state
states_in old new [] run = ap (λ (r : Running). r.state) run
states_in old new (entry ∷ entries) run = (
  run.0.state,
  step_in old run.0 entry.0 entry.1 run.1,
  states_in run.0 new entries run.2,
)

-- the deeds that were steps are steps of the gatekeeper, one after the other
steps_in : (old new : Running) (deeds : List Deed) (upshots : List Upshot)
    → DeedsRun old deeds upshots new → RunningRun old (steps_of deeds upshots) new
steps_in old new [] [] run = run
steps_in old new (Handle event ∷ deeds) (Ok outcome ∷ upshots) run =
    (run.0, run.1, steps_in run.0 new deeds upshots run.2)
steps_in old new (Handle event ∷ deeds) (Err fault ∷ upshots) run = absurd run.1
steps_in old new (Offer replacement fresh ∷ deeds) (Ok outcome ∷ upshots) run =
    (run.0, run.1.step, steps_in run.0 new deeds upshots run.2)
steps_in old new (Offer replacement fresh ∷ deeds) (Err fault ∷ upshots) run =
    subst (λ (r : Running). RunningRun r (steps_of deeds upshots) new) run.1.same
    (steps_in run.0 new deeds upshots run.2)
steps_in old new [] (upshot ∷ upshots) run = absurd run
steps_in old new (deed ∷ deeds) [] run = absurd run

-- a fresh pool that was refused, neither since the zone is closed nor for want of memory
pub is_refused : (old new : Running) (replacement : Replacement) (fresh back : Account)
    (fault : ReplaceFault) → IsRefusal old.state replacement.pool fresh back fault → new ≡ old
    → (fault ≡ replace.Closed → ⊥) → (fault ≡ replace.Memory → ⊥)
    → IsRefused old replacement fresh fault new
is_refused old new replacement fresh back replace.NoPool refusal same not_closed not_memory =
    record { told = tt; back = back; refusal = refusal; same = same }
is_refused old new replacement fresh back replace.NotIdle refusal same not_closed not_memory =
    record { told = tt; back = back; refusal = refusal; same = same }
is_refused old new replacement fresh back replace.NotLent refusal same not_closed not_memory =
    record { told = tt; back = back; refusal = refusal; same = same }
is_refused old new replacement fresh back replace.Closed refusal same not_closed not_memory =
    absurd (not_closed refl)
is_refused old new replacement fresh back replace.Memory refusal same not_closed not_memory =
    absurd (not_memory refl)

-- what came of each deed is told
each_told : (old new : Running) (deeds : List Deed) (upshots : List Upshot)
    → DeedsRun old deeds upshots new → length upshots ≡ length deeds
each_told old new [] [] run = refl
each_told old new (deed ∷ deeds) (upshot ∷ upshots) run =
    omega (arith, each_told run.0 new deeds upshots run.2)
each_told old new [] (upshot ∷ upshots) run = absurd run
each_told old new (deed ∷ deeds) [] run = absurd run

deeds_more : (old mid new : Running) (deeds : List Deed) (upshots : List Upshot) (deed : Deed)
    (upshot : Upshot) → DeedsRun old deeds upshots mid → DeedStep mid deed upshot new
    → DeedsRun old (deeds ++ deed ∷ []) (upshots ++ upshot ∷ []) new
deeds_more old mid new [] [] deed upshot run step =
    (new, subst (λ (r : Running). DeedStep r deed upshot new) run step, refl)
deeds_more old mid new (d ∷ deeds) (u ∷ upshots) deed upshot run step =
    (run.0, run.1, deeds_more run.0 mid new deeds upshots deed upshot run.2 step)
deeds_more old mid new [] (u ∷ upshots) deed upshot run step = absurd run
deeds_more old mid new (d ∷ deeds) [] deed upshot run step = absurd run

-- nothing was done yet, and nothing was written
pub nothing_done : (start : Running) (old : Option (List ℕ)) → RunsAndPrints start [] start old old
nothing_done start old = record {
  upshots = [];
  run = refl;
  steps = refl;
  states = refl;
  lines = Appends-nil old;
}

-- one more deed was done, and its line was written
pub one_more : (start mid after : Running) (deeds : List Deed) (deed : Deed)
    (upshot : Upshot) (old between new : Option (List ℕ))
    → RunsAndPrints start deeds mid old between
    → DeedStep mid deed upshot after
    → Appends between new (upshot_line (length deeds + 1) upshot)
    → RunsAndPrints start (deeds ++ deed ∷ []) after old new
one_more start mid after deeds deed upshot old between new ran step line =
    let each : length ran.upshots ≡ length deeds =
    each_told start mid deeds ran.upshots ran.run in
    let run = deeds_more start mid after deeds ran.upshots deed upshot ran.run step in
    let steps = steps_in start after (deeds ++ deed ∷ []) (ran.upshots ++ upshot ∷ []) run in
    record {
      upshots = ran.upshots ++ upshot ∷ [];
      run = run;
      steps = steps;
      states = states_in start after (steps_of (deeds ++ deed ∷ []) (ran.upshots ++ upshot ∷ []))
          steps;
      lines = subst (λ (text : List ℕ). Appends old new text)
          (sym (lines_push upshot_line ran.upshots upshot))
          (Appends-trans old between new (upshot_lines ran.upshots)
          (upshot_line (length ran.upshots + 1) upshot) ran.lines
          (subst (λ (n : ℕ). Appends between new (upshot_line (n + 1) upshot)) (sym each) line));
    }

-- the run stopped at a deed behind those that were done
module _ (start after : Running) (deeds done : List Deed) (deed : Deed) (rest : List Deed)
    (old new : Option (List ℕ)) (split : done ++ deed ∷ rest ≡ deeds)
    (ran : RunsAndPrints start done after old new) where
  front : take (length done) deeds ≡ done
  front = ap (take (length done)) (sym split) ∙ take-append_seam done (deed ∷ rest)

  below : length done < length deeds
  below = omega (arith, ap length split, length-append done (deed ∷ rest))

  ran_front : RunsAndPrints start (take (length done) deeds) after old new
  ran_front = subst (λ (ds : List Deed). RunsAndPrints start ds after old new) (sym front) ran

  pub no_memory_at : (after.state.steps ≡ most_steps → ⊥)
      → IsRunOf start deeds old new (Err (Memory (length done + 1)))
  no_memory_at more = rw add-one (after, (below, ran_front), more)

  pub closed_at : after.state.steps ≡ most_steps
      → IsRunOf start deeds old new (Err (Closed (length done + 1)))
  closed_at closed = rw add-one (after, (below, ran_front), closed)

-- The state of a run: the deeds with the numbers up to this one were done and printed, and those
-- that are left are of these events with these fresh pools.
pub record Ran (start : Running) (events : List ScriptEvent) (fresh : List Account) (number : ℕ)
    (left : List ScriptEvent) (rest : List Account) (zone : Running) (old new : Option (List ℕ))
    : Type 0 where
  pub done : List Deed
  pub count : length done ≡ number
  pub split : done ++ deeds_of left rest ≡ deeds_of events fresh
  pub run : RunsAndPrints start done zone old new

-- what came of the next deed
pub record Answered (number : ℕ) (left after_left : List ScriptEvent)
    (rest after_rest : List Account) (zone after : Running) (old new : Option (List ℕ))
    (answer : Result Unit RunFault) : Type 0 where
  pub deed : Deed
  pub next : deeds_of left rest ≡ deed ∷ deeds_of after_left after_rest
  pub answered : IsDeedAnswer (number + 1) zone after deed old new answer

pub answer_joined : (number : ℕ) (zone after after_zone : Running) (deed : Deed)
    (old new after_new : Option (List ℕ)) (answer told : Result Unit RunFault)
    → after_zone ≡ after → after_new ≡ new → told ≡ answer
    → IsDeedAnswer number zone after deed old new answer
    → IsDeedAnswer number zone after_zone deed old after_new told
answer_joined number zone after after_zone deed old new after_new answer told zone_is out_is told_is
    answered =
    subst (λ (r : Running). IsDeedAnswer number zone r deed old after_new told) (sym zone_is)
    (subst (λ (o : Option (List ℕ)). IsDeedAnswer number zone after deed old o told) (sym out_is)
    (subst (λ (a : Result Unit RunFault). IsDeedAnswer number zone after deed old new a)
    (sym told_is) answered))

-- what was given next stands between what was given before and what is left
pub moved_on : {X : Type 0} (given : List X) (next : X) (left rest all : List X)
    → left ≡ next ∷ rest → given ++ left ≡ all → (given ++ next ∷ []) ++ rest ≡ all
moved_on {X} given next left rest all is split =
    append_assoc given (next ∷ []) rest
    ∙ ap (λ (xs : List X). given ++ xs) (sym is)
    ∙ split

module _ (start : Running) (events : List ScriptEvent) (fresh : List Account) where
  pub ran_none : (left : List ScriptEvent) (rest : List Account) (old : Option (List ℕ))
      → left ≡ events → rest ≡ fresh → Ran start events fresh 0 left rest start old old
  ran_none left rest old events_is fresh_is = record {
    done = [];
    count = refl;
    split = ap (λ (es : List ScriptEvent). deeds_of es rest) events_is
        ∙ ap (λ (pools : List Account). deeds_of events pools) fresh_is;
    run = nothing_done start old;
  }

  pub ran_all : (number : ℕ) (left : List ScriptEvent) (rest : List Account) (zone : Running)
      (old new : Option (List ℕ)) → left ≡ []
      → Ran start events fresh number left rest zone old new
      → RunsAndPrints start (deeds_of events fresh) zone old new
  ran_all number left rest zone old new none ran =
      subst (λ (ds : List Deed). RunsAndPrints start ds zone old new)
      (sym (append-nil ran.done)
      ∙ ap (λ (es : List ScriptEvent). ran.done ++ deeds_of es rest) (sym none)
      ∙ ran.split) ran.run

  pub ran_more : (number : ℕ) (left after_left : List ScriptEvent) (rest after_rest : List Account)
      (zone after : Running) (old between new : Option (List ℕ)) (answer : Result Unit RunFault)
      (done : Unit {0}) → answer ≡ Ok done
      → Ran start events fresh number left rest zone old between
      → Answered number left after_left rest after_rest zone after between new answer
      → Ran start events fresh (number + 1) after_left after_rest after old new
  ran_more number left after_left rest after_rest zone after old between new answer done is ran
      told =
      let next = subst (λ (a : Result Unit RunFault). Answered number left after_left rest
      after_rest zone after between new a) is told in
      record {
        done = ran.done ++ next.deed ∷ [];
        count = length_push ran.done next.deed ∙ ap (λ (n : ℕ). n + 1) ran.count;
        split = append_assoc ran.done (next.deed ∷ []) (deeds_of after_left after_rest)
            ∙ ap (λ (ds : List Deed). ran.done ++ ds) (sym next.next) ∙ ran.split;
        run = one_more start zone after ran.done next.deed next.answered.0 old between new ran.run
            next.answered.1 (subst (λ (n : ℕ). Appends between new
            (upshot_line (n + 1) next.answered.0)) (sym ran.count) next.answered.2);
      }

  ran_to : (number : ℕ) (left after_left : List ScriptEvent) (rest after_rest : List Account)
      (zone after : Running) (old between new : Option (List ℕ)) (fault : RunFault)
      → Ran start events fresh number left rest zone old between
      → Answered number left after_left rest after_rest zone after between new (Err fault)
      → IsRunOf start (deeds_of events fresh) old new (Err fault)
  ran_to number left after_left rest after_rest zone after old between new (Memory event) ran next =
      let split = ap (λ (ds : List Deed). ran.done ++ ds) (sym next.next) ∙ ran.split in
      let stops = no_memory_at start zone (deeds_of events fresh) ran.done next.deed
      (deeds_of after_left after_rest) old between split ran.run next.answered.2 in
      subst (λ (o : Option (List ℕ)). IsRunOf start (deeds_of events fresh) old o
      (Err (Memory event))) (sym next.answered.3)
      (subst (λ (n : ℕ). IsRunOf start (deeds_of events fresh) old between (Err (Memory n)))
      (ap (λ (n : ℕ). n + 1) ran.count ∙ sym next.answered.0) stops)
  ran_to number left after_left rest after_rest zone after old between new (Closed event) ran next =
      let split = ap (λ (ds : List Deed). ran.done ++ ds) (sym next.next) ∙ ran.split in
      let stops = closed_at start zone (deeds_of events fresh) ran.done next.deed
      (deeds_of after_left after_rest) old between split ran.run next.answered.2 in
      subst (λ (o : Option (List ℕ)). IsRunOf start (deeds_of events fresh) old o
      (Err (Closed event))) (sym next.answered.3)
      (subst (λ (n : ℕ). IsRunOf start (deeds_of events fresh) old between (Err (Closed n)))
      (ap (λ (n : ℕ). n + 1) ran.count ∙ sym next.answered.0) stops)
  ran_to number left after_left rest after_rest zone after old between new Stream ran next = tt
  ran_to number left after_left rest after_rest zone after old between new WrongPools ran next =
      absurd next.answered

  pub ran_until : (number : ℕ) (left after_left : List ScriptEvent) (rest after_rest : List Account)
      (zone after : Running) (old between new : Option (List ℕ)) (answer : Result Unit RunFault)
      (fault : RunFault) → answer ≡ Err fault
      → Ran start events fresh number left rest zone old between
      → Answered number left after_left rest after_rest zone after between new answer
      → IsRunOf start (deeds_of events fresh) old new (Err fault)
  ran_until number left after_left rest after_rest zone after old between new answer fault is ran
      told =
      ran_to number left after_left rest after_rest zone after old between new fault ran
      (subst (λ (a : Result Unit RunFault). Answered number left after_left rest after_rest zone
      after between new a) is told)

-- a flush changes nothing of what was written
kept : (start : Running) (deeds : List Deed) (after : Running)
    (old between new : Option (List ℕ)) → Keeps between new
    → RunsAndPrints start deeds after old between → RunsAndPrints start deeds after old new
kept start deeds after old between new same ran = record {
  upshots = ran.upshots;
  run = ran.run;
  steps = ran.steps;
  states = ran.states;
  lines = Appends-kept old between new (upshot_lines ran.upshots) ran.lines same;
}

pub IsRunOf-kept : (start : Running) (deeds : List Deed) (old between new : Option (List ℕ))
    (answer : Result Unit RunFault) → Keeps between new
    → IsRunOf start deeds old between answer → IsRunOf start deeds old new answer
IsRunOf-kept start deeds old between new (Ok done) same ran =
    (ran.0, kept start deeds ran.0 old between new same ran.1)
IsRunOf-kept start deeds old between new (Err (Memory zero)) same ran =
    Keeps-trans old between new ran same
IsRunOf-kept start deeds old between new (Err (Memory (suc before))) same ran = (
  ran.0,
  (ran.1.0, kept start (take before deeds) ran.0 old between new same ran.1.1),
  ran.2,
)
IsRunOf-kept start deeds old between new (Err (Closed zero)) same ran = absurd ran.1
IsRunOf-kept start deeds old between new (Err (Closed (suc before))) same ran = (
  ran.0,
  (ran.1.0, kept start (take before deeds) ran.0 old between new same ran.1.1),
  ran.2,
)
IsRunOf-kept start deeds old between new (Err Stream) same ran = ran
IsRunOf-kept start deeds old between new (Err WrongPools) same ran =
    Keeps-trans old between new ran same

pub flushed_after : (answer : Result Unit RunFault) (flushed : Bool) → IsTrue flushed
    → IsFlushedAfter answer flushed
flushed_after (Ok done) flushed is = is
flushed_after (Err (Memory zero)) flushed is = tt
flushed_after (Err (Memory (suc before))) flushed is = is
flushed_after (Err (Closed event)) flushed is = is
flushed_after (Err Stream) flushed is = tt
flushed_after (Err WrongPools) flushed is = tt
