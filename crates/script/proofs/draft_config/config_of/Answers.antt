use Rattle.std.proofs.Common.{◌≡◌, ◌∙◌, ap, None, Err, subst, sym}
use Rattle.zone_config.specs.declared.config.ConfigParts.{ConfigParts}
use Rattle.zone_config.specs.Ranges.{range_fault}
use Rattle.zone_config.proofs.Staying.{defaults_in_range, no_range_fault}
use Rattle.script.proofs.draft_config.config_of.Goals as goal

pub unreachable-requires : goal.unreachable-requires
unreachable-requires c =
    let inside : range_fault c.new.result ≡ None =
    subst (λ (parts : ConfigParts). range_fault parts ≡ None) (sym c.new.ensures)
    (defaults_in_range c.args.name c.args.address c.args.networks c.requires.bits) in
    no_range_fault c.new.result c.new-2.result c.in-Err-OutOfRange.field-0-0 c.new-2.ensures
    (c.in-Err-OutOfRange.is ∙ ap Err c.in-Err-OutOfRange.field-0-is) inside
