use Rattle.record_audit.proofs.Runs.{recorded_run}
use Rattle.record_audit.proofs.laws.recorded_steps_are_a_run.Goals as goal

pub returns : goal.returns
returns c = recorded_run
