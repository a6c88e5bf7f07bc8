use Rattle.std.proofs.Common.{◌+◌, ◌∙◌, ap, drop, subst, sym}
use Rattle.toml.specs.View.{table_view}
use Rattle.zone_config.specs.declared.config.ConfigParts.{ConfigParts}
use Rattle.zone_config.specs.declared.key.Key.TheVariants.{Limit}
use Rattle.settings.specs.Ranges.{HasNumbersInRange}
use Rattle.settings.specs.Zones.{with_numbers}
use Rattle.settings.proofs.Numbers.{refused_number, read_number, no_number_left}
use Rattle.settings.proofs.InRange.{stays_in_range}
use Rattle.settings.proofs.zone.with_numbers.Goals as goal

pub returns-in-Err-clause-value : goal.returns-in-Err-clause-value
returns-in-Err-clause-value c =
    sym (c.loop-key.invariant.numbers
    ∙ refused_number (table_view c.args.zone.now) c.args.keys.now c.loop-key.key-index Limit
    c.loop-key.parts c.in-Err.refusal c.loop-key-test.true
    (sym c.zone_number.ensures.value ∙ c.in-Err.is))

pub loop-key-preserved : goal.loop-key-preserved
loop-key-preserved c =
    let table = table_view c.args.zone.now in
    let rest = drop (c.loop-key.key-index + 1) c.args.keys.now in
    record {
      numbers = c.loop-key.invariant.numbers
          ∙ read_number table c.args.keys.now c.loop-key.key-index Limit c.loop-key.parts
          c.in-Ok.number c.loop-key-test.true (sym c.zone_number.ensures.value ∙ c.in-Ok.is)
          ∙ ap (λ (parts : ConfigParts). with_numbers table rest parts) (sym c.set.ensures);
      ranges = subst (λ (parts : ConfigParts). HasNumbersInRange parts) (sym c.set.ensures)
          (stays_in_range c.loop-key.parts _ c.in-Ok.number c.in-Ok.ensures.range
          c.loop-key.invariant.ranges);
    }

pub returns-clause-value : goal.returns-clause-value
returns-clause-value c =
    sym (c.loop-key.invariant.numbers
    ∙ no_number_left (table_view c.args.zone.now) c.args.keys.now c.loop-key.key-index
    c.loop-key.parts c.loop-key-test.false)
