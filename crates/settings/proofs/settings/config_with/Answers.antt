use Rattle.std.proofs.Common.{◌∙◌, ap, Err}
use Rattle.settings.proofs.InRange.{with_networks}
use Rattle.zone_config.proofs.Staying.{no_range_fault}
use Rattle.settings.proofs.settings.config_with.Goals as goal

pub unreachable-requires : goal.unreachable-requires
unreachable-requires c =
    no_range_fault _ c.new.result c.in-Err-OutOfRange.field-0-0 c.new.ensures
    (c.in-Err-OutOfRange.is ∙ ap Err c.in-Err-OutOfRange.field-0-is)
    (with_networks c.args.parts c.args.networks c.requires.ranges c.requires.bits)
