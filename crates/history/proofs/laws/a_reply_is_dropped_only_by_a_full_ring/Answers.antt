use Rattle.history.proofs.Interleavings.{dropped_by_full}
use Rattle.history.proofs.laws.a_reply_is_dropped_only_by_a_full_ring.Goals as goal

pub returns : goal.returns
returns c = dropped_by_full
