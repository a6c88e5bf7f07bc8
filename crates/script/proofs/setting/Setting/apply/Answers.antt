use Rattle.std.proofs.Common.{subst, sym}
use Rattle.zone_config.specs.declared.config.ConfigParts.{ConfigParts}
use Rattle.zone_config.specs.Ranges.{IsConfig}
use Rattle.zone_config.proofs.Staying.{stays_config, no_config_fault}
use Rattle.script.proofs.setting.Setting.apply.Goals as goal

pub unreachable-requires : goal.unreachable-requires
unreachable-requires c =
    let old : IsConfig c.into_parts-parts.result =
    subst (λ (parts : ConfigParts). IsConfig parts)
    (sym c.into_parts-parts.ensures.same) c.into_parts-parts.ensures.ranges in
    let new : IsConfig c.set.new.parts =
    subst (λ (parts : ConfigParts). IsConfig parts) (sym c.set.ensures)
    (stays_config c.into_parts-parts.result c.self.inside.key c.self.inside.number
    c.self.invariant old) in
    no_config_fault c.set.new.parts c.new.result c.in-Err.field-0 c.new.ensures c.in-Err.is new
