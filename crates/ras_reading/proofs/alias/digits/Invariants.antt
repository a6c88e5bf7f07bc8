use Rattle.std.proofs.Common.{◌≡◌, ◌-◌, [], length, take, drop, replicate}
use Rattle.ras_module.specs.DialledDigits.{AreDialled}
use Rattle.ras_grammar.specs.Aliases.{digit}
use Rattle.ras_reading.proofs.Each.{folded, adding}
use Rattle.ras_reading.proofs.alias.digits.Given as goal

abbrev pub invariant-loop-i : goal.invariant-loop-i
invariant-loop-i l = record {
  full : length l.digits ≡ 128;
  so_far : folded adding digit.reading (l.count - l.i) (take l.i l.digits) l.decoder
      ≡ folded adding digit.reading l.count [] l.initial.decoder;
  dialled : AreDialled (take l.i l.digits);
  zeros : drop l.i l.digits ≡ replicate (128 - l.i) 0;
}
