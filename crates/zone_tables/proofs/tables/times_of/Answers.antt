use Rattle.std.proofs.Common.{ap, arith}
use Rattle.zone_config.specs.declared.config.ConfigParts.{ConfigParts}
use Rattle.zone_config.proofs.RangesKept.{limits}
use Rattle.zone_tables.proofs.tables.times_of.Goals as goal

pub overflow_cast-result : goal.overflow_cast-result
overflow_cast-result c =
    omega (
      arith,
      ap (λ (parts : ConfigParts). parts.asks) c.parts-parts.ensures.same,
      (limits c.args.config.now c.parts-parts.ensures.ranges.ranges).asks,
    )

pub returns-clause-asks : goal.returns-clause-asks
returns-clause-asks c =
    omega (
      arith,
      ap (λ (parts : ConfigParts). parts.asks) c.parts-parts.ensures.same,
      (limits c.args.config.now c.parts-parts.ensures.ranges.ranges).asks,
    )
