use Rattle.zone_events.specs.declared.change.Change.TheVariants as change
use Rattle.zone_lock.proofs.Steps.{made_under_lock}
use Rattle.zone_lock.proofs.UnderLock.{closed_under_lock, open_under_lock}
use Rattle.zone_lock.proofs.lock.ZoneLock.step.Goals as goal

pub returns-clause-step : goal.returns-clause-step
returns-clause-step g c =
    let told = c.step_locked.ensures in
    made_under_lock _ _ g.D.Hall.opened c.step_locked.result _ _ c.args.seat.now
    (change.Event c.args.prepared) _ told.step told.entered

pub returns-clause-closed : goal.returns-clause-closed
returns-clause-closed g c is =
    closed_under_lock _ _ _ c.step_locked.ensures.before c.step_locked.ensures.closed is

pub returns-clause-memory : goal.returns-clause-memory
returns-clause-memory g c is =
    open_under_lock _ _ _ c.step_locked.ensures.before c.step_locked.ensures.closed
    (λ closed. cc (is, closed))
