use Rattle.std.proofs.Common.{◌≡◌, ◌-◌, []}
use Rattle.ras_grammar.specs.Aliases.{alias_address}
use Rattle.ras_reading.proofs.Each.{folded}
use Rattle.ras_grammar.specs.Aliases.{keeping}
use Rattle.ras_reading.proofs.alias.served_aliases.Given as goal

abbrev pub invariant-loop : goal.invariant-loop
invariant-loop l = folded keeping alias_address.reading (l.count - l.counter) l.aliases l.decoder
    ≡ folded keeping alias_address.reading l.count [] l.initial.decoder
