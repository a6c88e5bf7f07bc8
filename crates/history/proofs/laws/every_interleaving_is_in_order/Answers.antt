use Rattle.history.proofs.Interleavings.{interleaved_in_order}
use Rattle.history.proofs.laws.every_interleaving_is_in_order.Goals as goal

pub returns : goal.returns
returns c = interleaved_in_order
