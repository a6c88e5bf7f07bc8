use Rattle.history.proofs.Interleavings.{served_in_order}
use Rattle.history.proofs.laws.replies_are_served_in_order.Goals as goal

pub returns : goal.returns
returns c = served_in_order
