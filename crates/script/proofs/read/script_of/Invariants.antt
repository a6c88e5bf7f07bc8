use Rattle.std.proofs.Common.{◌≡◌, ◌+◌, ◌≤◌, length}
use Rattle.script.specs.declared.read.TheConstants.Script as script_octets
use Rattle.script.specs.Scripts.{script_of}
use Rattle.script.proofs.Reading.{answer_from, readings}
use Rattle.script.proofs.read.script_of.Given as goal

abbrev pub invariant-loop-rest : goal.invariant-loop-rest
invariant-loop-rest l = record {
  few : l.number + length l.rest ≤ script_octets.MOST;
  answer : script_of l.text ≡ answer_from (l.number + 1) l.draft (readings l.rest);
}

abbrev pub decreases-loop-rest : goal.decreases-loop-rest
decreases-loop-rest l = length l.rest
