-- The steps of a record are a run.
use Rattle.std.proofs.Common.{◌≡◌, ℕ, ◌++◌, List, [], ◌∷◌, Bool, true, false, Option, Some, None}
use Rattle.std.proofs.Common.{Result, Ok, Err, ◌∙◌, ap, refl, subst, sym, append-nil, append_assoc}
use Rattle.zone_events.specs.declared.change.Change.{Change}
use Rattle.zone_events.specs.declared.outcome.Outcome.{Outcome}
use Rattle.ras_machine.specs.State.{State}
use Rattle.ras_core.specs.Runs.{Run}
use Rattle.script.specs.declared.event.ScriptEvent.{ScriptEvent}
use Rattle.script.specs.declared.fault.ScriptFault.{ScriptFault}
use Rattle.script.specs.declared.line.Line.{Line}
use Rattle.script.specs.declared.line.Line.TheVariants.{Blank, Zone, Set, Pool, At}
use Rattle.script.specs.declared.outcome.ShownOutcome.{ShownOutcome}
use Rattle.script.specs.declared.read.Script.{Script}
use Rattle.script.specs.Lines.{line_of}
use Rattle.script.specs.Outcomes.{shown_of}
use Rattle.record_audit.specs.Records.{Calls, Describes, Ends, GoesThrough, GoesUnless}
use Rattle.record_audit.specs.Records.{IsRunTo, Opens, Standing, Takes, beginning}
use Rattle.record_audit.specs.Records.{is_remark, opening_of, script_in, step_by}
use Rattle.record_audit.specs.Records.{step_shown, step_taken, step_unless}

abbrev Steps : Type 0
Steps = List (Change × Outcome)

run_on : (s mid after : State) (first others : Steps) → Run s first mid → Run mid others after
    → Run s (first ++ others) after
run_on s mid after [] others run more = subst (λ (z : State). Run z others after) run more
run_on s mid after (entry ∷ first) others run more =
    (run.0, run.1, run_on run.0 mid after first others run.2 more)

module _ (done : Steps) (old new : Standing) where
  same_zone : (zone : Option State) → old.zone ≡ zone → new.zone ≡ old.zone → IsRunTo done zone
      → IsRunTo (done ++ []) new.zone
  same_zone zone was is run =
      subst (λ (z : Option State). IsRunTo (done ++ []) z) (sym (is ∙ was))
      (subst (λ (steps : Steps). IsRunTo steps zone) (sym (append-nil done)) run)

  opened : (event : ScriptEvent) (r : Result Script ScriptFault) → done ≡ [] → Opens r event new
      → IsRunTo (done ++ []) new.zone
  opened event (Err fault) none h = absurd h
  opened event (Ok script) none h =
      subst (λ (z : Option State). IsRunTo (done ++ []) z) (sym (ap (λ (n : Standing). n.zone) h.1)) (
        script,
        h.0,
        subst (λ (steps : Steps). Run (opening_of script) steps (opening_of script))
            (sym (append-nil done ∙ none)) refl,
      )

  described : (line : Option Line) → old.zone ≡ None → done ≡ [] → Describes old line new
      → IsRunTo (done ++ []) new.zone
  described None was none h = absurd h
  described (Some (At event)) was none h = opened event (script_in old.said) none h
  described (Some Blank) was none h =
      same_zone None was (ap (λ (n : Standing). n.zone) h.1) none
  described (Some (Zone name address)) was none h =
      same_zone None was (ap (λ (n : Standing). n.zone) h.1) none
  described (Some (Set setting)) was none h =
      same_zone None was (ap (λ (n : Standing). n.zone) h.1) none
  described (Some (Pool pool)) was none h =
      same_zone None was (ap (λ (n : Standing). n.zone) h.1) none

  called : (s : State) (line : Option Line) → old.zone ≡ Some s → IsRunTo done (Some s)
      → Calls old line new → IsRunTo (done ++ []) new.zone
  called s None was run h = absurd h
  called s (Some (At event)) was run h =
      same_zone (Some s) was (ap (λ (n : Standing). n.zone) h) run
  called s (Some Blank) was run h = same_zone (Some s) was (ap (λ (n : Standing). n.zone) h) run
  called s (Some (Zone name address)) was run h = absurd h
  called s (Some (Set setting)) was run h = absurd h
  called s (Some (Pool pool)) was run h = absurd h

  ended : (s : State) (what : Change) (shown : Option ShownOutcome) → IsRunTo done (Some s)
      → Ends s what shown old new → IsRunTo (done ++ step_shown s what shown) new.zone
  ended s what None run h = absurd h.1
  ended s what (Some shown) run h =
      subst (λ (z : Option State). IsRunTo (done ++ step_shown s what (Some shown)) z)
      (sym (ap (λ (n : Standing). n.zone) h.2)) (
        run.0,
        run.1,
        run_on (opening_of run.0) s h.0 done (step_shown s what (Some shown)) run.2
            (h.0, h.1.step, refl),
      )

  taken : (line : List ℕ) (zone : Option State) (awaited : Option Change) → old.zone ≡ zone
      → IsRunTo done zone → Takes zone awaited old line new
      → IsRunTo (done ++ step_taken zone awaited line) new.zone
  taken line None awaited was run h = described (line_of line) was run h
  taken line (Some s) None was run h = called s (line_of line) was run h
  taken line (Some s) (Some what) was run h = ended s what (shown_of line) run h

  goes_by : (line : List ℕ) (b : Bool) → IsRunTo done old.zone → GoesUnless b old line new
      → IsRunTo (done ++ step_unless b old line) new.zone
  goes_by line true run h = same_zone old.zone refl (ap (λ (n : Standing). n.zone) h) run
  goes_by line false run h = taken line old.zone old.awaited refl run h

through : (lines : List (List ℕ)) (done steps : Steps) (old new : Standing) → IsRunTo done old.zone
    → GoesThrough old lines steps new → IsRunTo (done ++ steps) new.zone
through [] done steps old new run h =
    subst (λ (others : Steps). IsRunTo (done ++ others) new.zone) (sym h.1)
    (same_zone done old new old.zone refl (ap (λ (n : Standing). n.zone) h.0) run)
through (line ∷ lines) done steps old new run h =
    subst (λ (others : Steps). IsRunTo (done ++ others) new.zone) (sym h.4)
    (subst (λ (others : Steps). IsRunTo others new.zone)
    (append_assoc done (step_by old line) h.2)
    (through lines (done ++ step_by old line) h.2 h.0 new
    (goes_by done old h.0 line (is_remark line) run h.1.1) h.3))

pub recorded_run : (lines : List (List ℕ)) (steps : Steps) (new : Standing)
    → GoesThrough beginning lines steps new → IsRunTo steps new.zone
recorded_run lines steps new h = through lines [] steps beginning new refl h
