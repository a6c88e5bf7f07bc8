use Rattle.std.proofs.Common.{◌≡◌, drop}
use Rattle.ras_grammar.specs.Sequences.{skipped_each}
use Rattle.ras_reading.proofs.additions.skip_each.Given as goal

abbrev pub invariant-loop-present : goal.invariant-loop-present
invariant-loop-present l = (skipped_each (drop l.present-index l.present-items)).reading l.decoder ≡
    (skipped_each l.additions).reading l.initial.decoder
