use Rattle.std.proofs.Common.{◌≡◌, ◌≤◌, true, take}
use Rattle.std.specs.Char.{is_ascii_digit}
use Rattle.std.specs.List.{list_all}
use Rattle.std.specs.Str.Parse.{digits_value}
use Rattle.value_texts.proofs.number.number_of.Given as goal

abbrev pub invariant-loop-c : goal.invariant-loop-c
invariant-loop-c l = record {
  digits : list_all is_ascii_digit (take l.c-index l.word) ≡ true;
  value : l.number ≡ digits_value 10 (take l.c-index l.word);
  small : l.number ≤ l.high;
}
