use Rattle.record_laws.proofs.OutcomesRead.{read_back}
use Rattle.record_laws.proofs.laws.written_outcomes_are_read_again.Goals as goal

pub returns : goal.returns
returns c = read_back
