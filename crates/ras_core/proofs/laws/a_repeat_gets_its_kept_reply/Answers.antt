use Rattle.ras_core.proofs.Lawful.{repeated}
use Rattle.ras_core.proofs.laws.a_repeat_gets_its_kept_reply.Goals as goal

pub returns : goal.returns
returns c = repeated
