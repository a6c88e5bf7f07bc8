use Rattle.record_audit.proofs.ReadingBack.{read_back}
use Rattle.record_audit.proofs.laws.written_events_are_read_again.Goals as goal

pub returns : goal.returns
returns c = read_back
