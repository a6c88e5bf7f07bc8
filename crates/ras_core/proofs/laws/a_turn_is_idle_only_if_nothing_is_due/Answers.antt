use Rattle.ras_core.proofs.Lawful.{idle}
use Rattle.ras_core.proofs.laws.a_turn_is_idle_only_if_nothing_is_due.Goals as goal

pub returns : goal.returns
returns c = idle
