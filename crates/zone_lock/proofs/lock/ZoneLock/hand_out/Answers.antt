use Rattle.zone_lock.proofs.lock.ZoneLock.hand_out.Goals as goal

pub returns : goal.returns
returns g c = record {
  held = _;
  kept = c.hand_out_locked.ensures.before;
  first_is = c.hand_out_locked.ensures.place;
  entries_are = c.hand_out_locked.ensures.gone;
  recorded = c.hand_out_locked.ensures.told;
}
