use Rattle.std.proofs.Common.{ap, arith, subst}
use Rattle.zone_config.proofs.RangesKept.{limits}
use Rattle.zone_tables.specs.Soundness.{SoundTables}
use Rattle.zone_tables.specs.Tables.{Tables}
use Rattle.zone_tables.proofs.SoundParts.{SoundTables-parts}
use Rattle.zone_tables.proofs.tables.ZoneTables.registrations.Goals as goal

pub returns-clause-sound : goal.returns-clause-sound
returns-clause-sound c =
    subst SoundTables c.self.view_is
    (SoundTables-parts _ _ _ c.self.invariant)

pub returns-clause-asks : goal.returns-clause-asks
returns-clause-asks c =
    omega (
      arith,
      ap (λ (m : Tables). m.config.asks) c.self.view_is,
      (limits c.self.inside.config c.self.invariant.settings.ranges).asks,
    )
