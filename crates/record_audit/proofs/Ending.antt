-- Lines behind which an audit goes on, or doesn't.
use Rattle.std.proofs.Common.{◌≡◌, ℕ, List, Bool, false, Option, Some, None, Result, Err, OnOk}
use Rattle.std.proofs.Common.{ap, refl, subst, sym}
use Rattle.std.proofs.lemmas.Result.{on_ok_weaker}
use Rattle.zone_events.specs.declared.change.Change.{Change}
use Rattle.ras_machine.specs.State.{State}
use Rattle.script.specs.declared.event.ScriptEvent.{ScriptEvent}
use Rattle.script.specs.declared.fault.ScriptFault.{ScriptFault}
use Rattle.script.specs.declared.fault.ScriptFault.TheVariants.{TooLong, BadLine, NoZone}
use Rattle.script.specs.declared.fault.ScriptFault.TheVariants.{NoDefaultPool, Stream, Memory}
use Rattle.script.specs.declared.read.Script.{Script}
use Rattle.script.specs.Outcomes.{shown_of}
use Rattle.script.specs.Scripts.{GivesUnlessMemory}
use Rattle.record_audit.specs.declared.fault.LineFault.{LineFault}
use Rattle.record_audit.specs.Records.{GoesUnless, Opens, ShowsStep, Standing, Takes, fault_of_head}
use Rattle.record_audit.specs.Records.{is_remark}

-- lines that make no zone open none
pub not_opened : (answer : Result Script ScriptFault) (fault : ScriptFault)
    → GivesUnlessMemory answer (Err fault) → (fault ≡ Memory → ⊥) → (event : ScriptEvent)
    → (new : Standing) → Opens answer event new → ⊥
not_opened answer Stream h other event new opens = h
not_opened answer Memory h other event new opens = other refl
not_opened answer TooLong h other event new opens =
    subst (λ (a : Result Script ScriptFault). Opens a event new) h opens
not_opened answer (BadLine line) h other event new opens =
    subst (λ (a : Result Script ScriptFault). Opens a event new) h opens
not_opened answer NoZone h other event new opens =
    subst (λ (a : Result Script ScriptFault). Opens a event new) h opens
not_opened answer NoDefaultPool h other event new opens =
    subst (λ (a : Result Script ScriptFault). Opens a event new) h opens

-- and this is why
pub why_not_opened : (answer : Result Script ScriptFault) (fault : ScriptFault)
    → GivesUnlessMemory answer (Err fault) → (fault ≡ Memory → ⊥)
    → fault_of_head (Err fault) ≡ fault_of_head answer
why_not_opened answer Stream h other = absurd h
why_not_opened answer Memory h other = absurd (other refl)
why_not_opened answer TooLong h other = ap fault_of_head (sym h)
why_not_opened answer (BadLine line) h other = ap fault_of_head (sym h)
why_not_opened answer NoZone h other = ap fault_of_head (sym h)
why_not_opened answer NoDefaultPool h other = ap fault_of_head (sym h)

-- a line that shows the step that is awaited
pub ended_line : (r : Result (Unit {0}) LineFault) (old new : Standing) (line : List ℕ)
    (s after : State) (what : Change) → is_remark line ≡ false → old.zone ≡ Some s
    → old.awaited ≡ Some what → OnOk r (ShowsStep s what (shown_of line) after)
    → new ≡ record old { zone = Some after; awaited = None }
    → OnOk r (GoesUnless (is_remark line) old line new)
ended_line r old new line s after what remark zone awaited ok is =
    on_ok_weaker r (λ (shows : ShowsStep s what (shown_of line) after).
    subst (λ (b : Bool). GoesUnless b old line new) (sym remark)
    (subst (λ (z : Option State). Takes z old.awaited old line new) (sym zone)
    (subst (λ (w : Option Change). Takes (Some s) w old line new) (sym awaited)
    (after, shows, is)))) ok
