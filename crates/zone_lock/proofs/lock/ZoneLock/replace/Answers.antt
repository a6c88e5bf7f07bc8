use Rattle.zone_lock.proofs.UnderLock.{refused_under_lock, replaced_under_lock}
use Rattle.zone_lock.proofs.lock.ZoneLock.replace.Goals as goal

pub returns-clause-step : goal.returns-clause-step
returns-clause-step g c =
    let told = c.replace_locked.ensures in
    replaced_under_lock g.P.Pool.account g.D.Hall.opened c.replace_locked.result _ _
    c.args.seat.now c.args.pool (g.P.Pool.account c.args.fresh) c.args.moment told.before told.kept
    told.step told.old_pool told.entry told.receipt told.first

pub returns-clause-fault : goal.returns-clause-fault
returns-clause-fault g c =
    refused_under_lock g.P.Pool.account g.D.Hall.opened c.replace_locked.result _ c.args.pool
    (g.P.Pool.account c.args.fresh) c.replace_locked.ensures.before
    c.replace_locked.ensures.fault
