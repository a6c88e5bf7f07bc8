use Rattle.history.proofs.Interleavings.{next_taken}
use Rattle.history.proofs.laws.the_next_reply_is_taken.Goals as goal

pub returns : goal.returns
returns c = next_taken
