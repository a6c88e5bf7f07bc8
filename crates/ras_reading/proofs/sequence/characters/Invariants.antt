use Rattle.std.proofs.Common.{◌≡◌, ◌-◌, [], length, take, drop, replicate}
use Rattle.ras_grammar.specs.Grammar.{bits}
use Rattle.ras_reading.proofs.Each.{folded, adding}
use Rattle.ras_reading.proofs.sequence.characters.Given as goal

abbrev pub invariant-loop-i : goal.invariant-loop-i
invariant-loop-i g l = record {
  full : length l.characters ≡ g.row.MOST;
  so_far : folded adding (bits 16).reading (l.count - l.i) (take l.i l.characters) l.decoder
      ≡ folded adding (bits 16).reading l.count [] l.initial.decoder;
  zeros : drop l.i l.characters ≡ replicate (g.row.MOST - l.i) 0;
}
