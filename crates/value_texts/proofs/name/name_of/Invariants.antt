use Rattle.std.proofs.Common.{◌≡◌, ◌≤◌, true, nat_lt, take, length}
use Rattle.std.specs.List.{list_all}
use Rattle.std.specs.Str.{chars}
use Rattle.value_texts.proofs.name.name_of.Given as goal

abbrev pub invariant-loop-c : goal.invariant-loop-c
invariant-loop-c l = record {
  count : l.count ≡ length l.yielded;
  few : l.count ≤ 128;
  full : length l.units ≡ 128;
  units : take l.count l.units ≡ take l.count (chars l.word);
  small : list_all (λ c. nat_lt c 65536) (take l.count (chars l.word)) ≡ true;
}
