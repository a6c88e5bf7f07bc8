use Rattle.zone_lock.proofs.UnderLock.{chapter_under_lock, without_base}
use Rattle.zone_lock.proofs.lock.ZoneLock.cut.Goals as goal

pub returns-clause-chapter : goal.returns-clause-chapter
returns-clause-chapter g c =
    let cut = c.cut_locked.ensures in
    chapter_under_lock g.D.Hall.opened _ c.cut_locked.result _ cut.before cut.chapter cut.begun

pub returns-clause-no_base : goal.returns-clause-no_base
returns-clause-no_base g c is =
    without_base _ _ _ c.cut_locked.ensures.before c.cut_locked.ensures.no_base is
