-- What a listing tells of a zone.
use Rattle.std.specs.Prelude.{◌≡◌, ◌≤◌}
use Rattle.std.specs.FinMap.{entries}
use Rattle.registrations.specs.Registry.{IsListOf}
use Rattle.admission.specs.Calls.{in_use}
use Rattle.ras_machine.specs.State.{State}
use Rattle.zone_lock.specs.Held.{Held, IsKept}
use Rattle.zone_lock.specs.declared.listing.Listing.{Listing}

-- The endpoints that are registered in this state and the calls that are open, the bandwidth in
-- use, which is the sum over these calls, and the limit of the zone, within which it is.
pub record IsListing (s : State) (l : Listing) : Type 0 where
  pub endpoints : IsListOf s.tables.live l.endpoints
  pub calls : l.calls ≡ entries s.tables.calls
  pub in_use : l.in_use ≡ in_use s.tables.calls
  pub limit : l.limit ≡ s.tables.config.limit
  pub within : l.in_use ≤ l.limit

-- the listing is of what stood behind the lock of a zone, which was locked in this state
pub record IsListingUnderLock (opened : State) (l : Listing) : Type 0 where
  pub held : Held
  pub kept : IsKept opened held
  pub listing : IsListing held.zone.state l
