use Rattle.std.proofs.Common.{◌≡◌, [], rules, subst, sym}
use Rattle.zone_config.specs.declared.config.ConfigParts.{ConfigParts}
use Rattle.zone_config.specs.Defaults.{default_parts}
use Rattle.settings.specs.Ranges.{HasNumbersInRange}
use Rattle.settings.proofs.InRange.{defaults_are_in_range}
use Rattle.settings.proofs.zone.unset.Goals as goal

pub returns-clause-ranges : goal.returns-clause-ranges
returns-clause-ranges c =
    let unset : c.new-2.result ≡ default_parts c.args.identifier c.args.address [] = search rules in
    subst (λ (parts : ConfigParts). HasNumbersInRange parts) (sym unset)
    (defaults_are_in_range c.args.identifier c.args.address)
