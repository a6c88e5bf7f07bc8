use Rattle.std.proofs.Common.{◌≡◌, ◌-◌}
use Rattle.ras_grammar.specs.Grammar.{octets}
use Rattle.ras_reading.proofs.Each.{folded, dropping}
use Rattle.ras_reading.proofs.address.skip_route.Given as goal

abbrev pub invariant-loop : goal.invariant-loop
invariant-loop l = folded dropping (octets 4).reading (l.count - l.counter) tt l.decoder
    ≡ folded dropping (octets 4).reading l.count tt l.initial.decoder
