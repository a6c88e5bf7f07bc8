use Rattle.std.proofs.Common.{◌≡◌, ◌-◌, [], length, take}
use Rattle.ras_grammar.specs.Grammar.{boolean}
use Rattle.ras_reading.proofs.Each.{folded, adding}
use Rattle.ras_reading.proofs.additions.presence_bits.Given as goal

abbrev pub invariant-loop-i : goal.invariant-loop-i
invariant-loop-i l = record {
  full : length l.present ≡ 64;
  so_far : folded adding boolean.reading (l.count - l.i) (take l.i l.present) l.decoder
      ≡ folded adding boolean.reading l.count [] l.initial.decoder;
}
