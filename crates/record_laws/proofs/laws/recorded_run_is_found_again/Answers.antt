use Rattle.record_laws.proofs.WholeRecord.{found_again}
use Rattle.record_laws.proofs.laws.recorded_run_is_found_again.Goals as goal

pub returns : goal.returns
returns c = found_again
