use Rattle.std.proofs.Common.{ap}
use Rattle.zone_events.specs.declared.change.Change.TheVariants as change
use Rattle.zone_lock.proofs.Steps.{entered_if_made}
use Rattle.zone_lock.proofs.stepping.step_recorded.Goals as goal

pub returns-in-Ok-clause-entered : goal.returns-in-Ok-clause-entered
returns-in-Ok-clause-entered g c =
    let done = c.enter_step.ensures in
    entered_if_made g.D.Hall.opened c.enter_step.result _ _ _ _ _ _ _ c.new.ensures.seat
    (ap change.Event c.in-Ok.ensures.prepared) done.before c.requires done.step done.entry
    done.first done.carried done.base done.recorded
