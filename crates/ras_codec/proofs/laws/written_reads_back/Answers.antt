use Rattle.ras_writing.proofs.RepliesRead.{reads_back}
use Rattle.ras_codec.proofs.laws.written_reads_back.Goals as goal

pub returns : goal.returns
returns c = reads_back
