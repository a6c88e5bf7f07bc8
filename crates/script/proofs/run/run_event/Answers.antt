use Rattle.std.proofs.Common.{Ok}
use Rattle.script.proofs.run.run_event.Goals as goal

pub returns-in-Ok-write_outcome : goal.returns-in-Ok-write_outcome
returns-in-Ok-write_outcome g c =
    (Ok c.step_into.new.outcome, c.in-Ok.ensures.step, c.in-Ok-write_outcome.ensures)
