use Rattle.zone_lock.proofs.UnderLock.{endpoints_under_lock}
use Rattle.zone_lock.proofs.lock.ZoneLock.endpoints_below.Goals as goal

pub returns-clause-rows : goal.returns-clause-rows
returns-clause-rows g c = record {
  held = _;
  kept = c.endpoints_locked.ensures.kept;
  each = c.endpoints_locked.ensures.rows;
  by_place = c.endpoints_locked.ensures.by_place;
  count = c.endpoints_locked.ensures.count;
}

pub returns-clause-each : goal.returns-clause-each
returns-clause-each g c =
    endpoints_under_lock g.D.Hall.opened _ c.endpoints_locked.new.rows.items c.endpoints_locked.ensures.kept c.endpoints_locked.ensures.rows
