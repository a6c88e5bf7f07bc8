-- The parts of a zone.
use Rattle.std.specs.Prelude.{◌≡◌, List}
use Rattle.pools.specs.Members.{Member, accounts_of}
use Rattle.zone_tables.specs.Pools.{figures_of}
use Rattle.ras_machine.specs.State.{State}
use Rattle.ras_machine.specs.Soundness.{Sound}

-- the state is sound, and has the figures of the pools that are there
pub record AreZoneParts (s : State) (members : List Member) : Type 0 where
  pub sound : Sound s
  pub pools : figures_of (accounts_of members) ≡ s.tables.pools
