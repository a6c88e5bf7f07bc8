use Rattle.zone_lock.proofs.UnderLock.{listing_under_lock}
use Rattle.zone_lock.proofs.lock.ZoneLock.list.Goals as goal

pub returns : goal.returns
returns g c =
    listing_under_lock g.D.Hall.opened _ c.list_locked.result _ c.list_locked.ensures.kept
    c.list_locked.ensures.listing
