use Rattle.ras_writing.proofs.RepliesRead.{one_reply}
use Rattle.ras_codec.proofs.laws.one_reply.Goals as goal

pub returns : goal.returns
returns c = one_reply
