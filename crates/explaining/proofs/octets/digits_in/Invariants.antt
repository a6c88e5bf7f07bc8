use Rattle.std.proofs.Common.{◌≡◌, ◌++◌, drop}
use Rattle.explaining.specs.Lines.{digits_in}
use Rattle.explaining.proofs.octets.digits_in.Given as goal

-- what was found, with what is left to be looked at, is the whole
abbrev pub invariant-loop-c : goal.invariant-loop-c
invariant-loop-c l = l.digits.items ++ digits_in (drop l.c-index l.text) ≡ digits_in l.text
