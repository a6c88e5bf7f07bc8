use Rattle.std.proofs.Common.{arith, ◌∙◌}
use Rattle.std.proofs.lemmas.List.{length-set}
use Rattle.registrations.proofs.Digits.{digit_more}
use Rattle.registrations.proofs.number.digits_of.Goals as goal

pub loop-k-preserved : goal.loop-k-preserved
loop-k-preserved c = (
  length-set _ _ _ ∙ c.loop-k.invariant.0,
  digit_more c.loop-k.digits c.loop-k.k
      c.loop-k.rest c.args.number c.loop-k.invariant.0 (omega arith) c.loop-k.invariant.1,
)
