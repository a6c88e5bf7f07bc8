use Rattle.std.proofs.Common.{take}
use Rattle.ras_core.specs.Runs.{RunsOn}
use Rattle.ras_machine.specs.Soundness.{Sound}
use Rattle.ras_core.proofs.zone.Zone.run.Given as goal

-- the events so far, with the outcomes that were appended, are a run
abbrev pub invariant-loop-i : goal.invariant-loop-i
invariant-loop-i g l = record {
  run : RunsOn l.fn.self (take l.i l.events) l.fn.outcomes.items l.outcomes.items l.self;
  sound : Sound l.self.state;
}
