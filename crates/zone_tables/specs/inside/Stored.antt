-- How the endpoints are stored: their registrations, beside the table of their aliases.
use Rattle.aliases.specs.Held.{Held}
use Rattle.registrations.specs.Registry.{IsSound, Registry}
use Rattle.registrations.specs.Agreement.{Agree}

-- the two tables agree
pub record AreStored (registrations : Registry) (held : Held) : Type 0 where
  pub agree : Agree registrations.live held
  pub sound : IsSound registrations
