use Rattle.std.proofs.Common.{◌≡◌, ◌-◌}
use Rattle.record_audit.specs.Told.{passed_alias}
use Rattle.ras_reading.proofs.Each.{folded, dropping}
use Rattle.record_audit.proofs.told.skip_each_alias.Given as goal

abbrev pub invariant-loop : goal.invariant-loop
invariant-loop l = folded dropping passed_alias.reading (l.count - l.counter) tt l.decoder
    ≡ folded dropping passed_alias.reading l.count tt l.initial.decoder
