use Rattle.zone_lock.proofs.UnderLock.{calls_under_lock}
use Rattle.zone_lock.proofs.lock.ZoneLock.calls_below.Goals as goal

pub returns-clause-rows : goal.returns-clause-rows
returns-clause-rows g c = record {
  held = _;
  kept = c.calls_locked.ensures.kept;
  each = c.calls_locked.ensures.rows;
  by_place = c.calls_locked.ensures.by_place;
  count = c.calls_locked.ensures.count;
}

pub returns-clause-each : goal.returns-clause-each
returns-clause-each g c =
    calls_under_lock g.D.Hall.opened _ c.calls_locked.new.rows.items c.calls_locked.ensures.kept c.calls_locked.ensures.rows
