use Rattle.std.proofs.Common.{◌≡◌, drop}
use Rattle.toml.specs.View.{table_view}
use Rattle.settings.specs.Ranges.{HasNumbersInRange}
use Rattle.settings.specs.Zones.{with_numbers}
use Rattle.settings.proofs.zone.with_numbers.Given as goal

abbrev pub invariant-loop-key : goal.invariant-loop-key
invariant-loop-key l = record {
  numbers : with_numbers (table_view l.zone) l.keys l.initial.parts
      ≡ with_numbers (table_view l.zone) (drop l.key-index l.keys) l.parts;
  ranges : HasNumbersInRange l.parts;
}
