use Rattle.recording.proofs.MoreSteps.{one_more}
use Rattle.recording.proofs.laws.written_steps_are_the_record.Goals as goal

pub returns : goal.returns
returns c = one_more
