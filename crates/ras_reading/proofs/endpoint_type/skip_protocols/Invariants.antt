use Rattle.std.proofs.Common.{◌≡◌, ◌-◌}
use Rattle.ras_reading.specs.EndpointTypes.{supported_protocols}
use Rattle.ras_reading.proofs.Each.{folded, dropping}
use Rattle.ras_reading.proofs.endpoint_type.skip_protocols.Given as goal

abbrev pub invariant-loop : goal.invariant-loop
invariant-loop l = folded dropping supported_protocols.reading (l.count - l.counter) tt l.decoder
    ≡ folded dropping supported_protocols.reading l.count tt l.initial.decoder
