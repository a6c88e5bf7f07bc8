use Rattle.std.proofs.Common.{arith, ◌∙◌}
use Rattle.registrations.proofs.Digits.{skip_zero}
use Rattle.registrations.proofs.number.first_of.Goals as goal

pub loop-start-preserved : goal.loop-start-preserved
loop-start-preserved c = (
  omega arith,
  skip_zero c.args.digits.now c.loop-start.start (omega arith)
      (omega arith) ∙ c.loop-start.invariant.1,
)
