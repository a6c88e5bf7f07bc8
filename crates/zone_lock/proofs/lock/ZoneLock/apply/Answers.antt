use Rattle.std.proofs.Common.{◌≡◌, ap}
use Rattle.zone_events.specs.declared.change.Change.TheVariants as change
use Rattle.ras_core.specs.declared.fault.StepFault.TheVariants.{Closed, Memory}
use Rattle.zone_lock.proofs.UnderLock.{closed_under_lock, open_under_lock, step_told}
use Rattle.zone_lock.proofs.lock.ZoneLock.apply.Goals as goal

pub returns-in-Ok-clause-step : goal.returns-in-Ok-clause-step
returns-in-Ok-clause-step g c =
    let told = c.make_step.ensures in
    step_told g.D.Hall.opened c.make_step.result _ _ _ _ _ _ c.in-Ok.ensures.seat
    (ap change.Event c.in-Ok.ensures.prepared) told.before told.kept told.step told.entry
    told.receipt told.first

pub returns-in-Ok-clause-closed : goal.returns-in-Ok-clause-closed
returns-in-Ok-clause-closed g c is =
    closed_under_lock _ _ _ c.make_step.ensures.before c.make_step.ensures.closed is

pub returns-in-Err-clause-closed : goal.returns-in-Err-clause-closed
returns-in-Err-clause-closed g c is =
    let same : c.fault_without_order.result ≡ Closed = cc is in
    closed_under_lock _ _ _ c.fault_without_order.ensures.kept
    c.fault_without_order.ensures.closed same

pub returns-in-Ok-clause-memory : goal.returns-in-Ok-clause-memory
returns-in-Ok-clause-memory g c is =
    open_under_lock _ _ _ c.make_step.ensures.before c.make_step.ensures.closed
    (λ closed. cc (is, closed))

pub returns-in-Err-clause-memory : goal.returns-in-Err-clause-memory
returns-in-Err-clause-memory g c is =
    let same : c.fault_without_order.result ≡ Memory = cc is in
    open_under_lock _ _ _ c.fault_without_order.ensures.kept
    c.fault_without_order.ensures.closed (λ closed. cc (same, closed))
