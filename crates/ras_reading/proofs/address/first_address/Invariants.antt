use Rattle.std.proofs.Common.{◌≡◌, ◌-◌, None}
use Rattle.std.specs.Option.{option_or}
use Rattle.ras_grammar.specs.Addresses.{transport_address}
use Rattle.ras_reading.proofs.Each.{folded}
use Rattle.ras_reading.proofs.address.first_address.Given as goal

abbrev pub invariant-loop : goal.invariant-loop
invariant-loop l = folded option_or transport_address.reading
    (l.count - l.counter) l.first l.decoder ≡ folded option_or transport_address.reading l.count
    None l.initial.decoder
