use Rattle.std.proofs.Common.{◌≡◌, ◌-◌, [], length, take, drop, replicate}
use Rattle.ras_grammar.specs.Grammar.{bits}
use Rattle.ras_reading.proofs.Each.{folded, adding}
use Rattle.record_audit.proofs.told.characters.Given as goal

abbrev pub invariant-loop-i : goal.invariant-loop-i
invariant-loop-i l = record {
  full : length l.characters ≡ 128;
  so_far : folded adding (bits 16).reading (l.count - l.i) (take l.i l.characters) l.decoder
      ≡ folded adding (bits 16).reading l.count [] l.initial.decoder;
  zeros : drop l.i l.characters ≡ replicate (128 - l.i) 0;
}
