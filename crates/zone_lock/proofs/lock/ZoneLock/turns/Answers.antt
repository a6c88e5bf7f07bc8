use Rattle.zone_lock.proofs.TurnByTurn.{closed_by_turns}
use Rattle.zone_lock.proofs.lock.ZoneLock.turns.Goals as goal

pub returns-clause-made : goal.returns-clause-made
returns-clause-made g c = record {
  old = _;
  new = _;
  before = c.turns_locked.ensures.before;
  after = c.turns_locked.ensures.kept;
  made = c.turns_locked.ensures.made;
}

pub returns-clause-closed : goal.returns-clause-closed
returns-clause-closed g c is =
    closed_by_turns _ _ _ _ _ _ _ _ _ _ _ c.turns_locked.ensures.made c.turns_locked.ensures.kept is
