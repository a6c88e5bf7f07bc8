use Rattle.std.proofs.Common.{◌<◌, ◌^◌, ap, arith, subst}
use Rattle.zone_config.proofs.RangesKept.{limits}
use Rattle.zone_tables.specs.Tables.{Tables}
use Rattle.zone_tables.specs.Soundness.{SoundTables}
use Rattle.zone_tables.proofs.SoundParts.{SoundTables-parts, small_call_limit}
use Rattle.zone_tables.proofs.tables.ZoneTables.config.Goals as goal

pub returns-clause-asks : goal.returns-clause-asks
returns-clause-asks c =
    omega (
      arith,
      ap (λ (m : Tables). m.config.asks) c.self.view_is,
      (limits c.self.inside.config c.self.invariant.settings.ranges).asks,
    )

pub returns-clause-call_limit : goal.returns-clause-call_limit
returns-clause-call_limit c =
    subst (λ (m : Tables). m.config.call_limit < 2 ^ 32) c.self.view_is
    (small_call_limit _ _ _ c.self.invariant)

pub returns-clause-sound : goal.returns-clause-sound
returns-clause-sound c =
    subst SoundTables c.self.view_is
    (SoundTables-parts _ _ _ c.self.invariant)
