use Rattle.std.proofs.Common.{ℕ, List, subst, arith}
use Rattle.script.specs.Scripts.{script_of, GivesUnlessMemory}
use Rattle.script.proofs.Inputs.{whole_answer, fault_answer}
use Rattle.script.proofs.read.read_script.Goals as goal

pub returns-in-Ok : goal.returns-in-Ok
returns-in-Ok g c =
    whole_answer c.args.input.now c.read_whole.new.input
    c.in-Ok.text.items c.script_of.result
    c.in-Ok.ensures.whole c.in-Ok.ensures.end c.in-Ok.ensures.stream
    (omega (arith, c.in-Ok.ensures.len, c.in-Ok.text.ok.0))
    (subst (λ (text : List ℕ). GivesUnlessMemory (script_of text) c.script_of.result)
    c.deref.ensures.value c.script_of.ensures)

pub returns-in-Err : goal.returns-in-Err
returns-in-Err g c =
    fault_answer c.args.input.now c.read_whole.new.input c.in-Err.fault
    c.in-Err.ensures.kinds c.in-Err.ensures.long c.read_whole.ensures.most c.in-Err.ensures.stream
