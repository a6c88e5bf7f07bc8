use Rattle.std.proofs.Common.{◌∙◌, ap, sym}
use Rattle.toml.specs.View.{table_view}
use Rattle.zone_config.specs.declared.config.ConfigParts.{ConfigParts}
use Rattle.zone_config.specs.Keys.{all_keys}
use Rattle.settings.specs.Zones.{with_numbers}
use Rattle.settings.proofs.Numbers.{read_zone}
use Rattle.settings.proofs.zone.zone_of.Goals as goal

pub returns-clause-value : goal.returns-clause-value
returns-clause-value c =
    let table = table_view c.args.zone.now in
    c.with_numbers.ensures.value
    ∙ ap (λ (parts : ConfigParts). with_numbers table all_keys parts) c.unset.ensures.value
    ∙ sym (read_zone table c.in_ok-identifier.identifier c.in_ok-address.address
    (sym c.identifier_of.ensures ∙ c.in_ok-identifier.was)
    (sym c.ras_address_of.ensures ∙ c.in_ok-address.was))
