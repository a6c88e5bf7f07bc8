use Rattle.std.proofs.Common.{◌≡◌, ◌-◌}
use Rattle.ras_grammar.specs.Aliases.{alias_address}
use Rattle.ras_reading.proofs.Each.{folded, dropping}
use Rattle.ras_reading.proofs.alias.skip_each_alias.Given as goal

abbrev pub invariant-loop : goal.invariant-loop
invariant-loop l = folded dropping alias_address.reading (l.count - l.counter) tt l.decoder
    ≡ folded dropping alias_address.reading l.count tt l.initial.decoder
