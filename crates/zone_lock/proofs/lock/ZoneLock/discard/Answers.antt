use Rattle.zone_lock.proofs.lock.ZoneLock.discard.Goals as goal

pub returns : goal.returns
returns g c = record {
  held = _;
  kept = c.discard_locked.ensures.before;
  base_is = c.discard_locked.ensures.gone.0;
  entries_are = c.discard_locked.ensures.gone.1;
}
