use Rattle.std.proofs.Common.{◌∙◌, refl}
use Rattle.step_check.proofs.Redoing.{refused}
use Rattle.step_check.proofs.step.accepts.Goals as goal

pub returns-else-branch-clause-accepts : goal.returns-else-branch-clause-accepts
returns-else-branch-clause-accepts c = (
  refused c.args.snapshot.now c.into_machine-machine.result c.redo.new.machine c.args.change.now
      c.args.outcome.now c.in_ok-redo.field-0 c.if-branch.false
      (c.into_machine-machine.ensures.machine ∙ c.in_ok-copy.ensures) c.in_ok-redo.ensures.redoes,
  refl,
)
