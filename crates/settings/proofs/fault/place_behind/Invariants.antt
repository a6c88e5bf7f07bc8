use Rattle.std.proofs.Common.{◌≡◌, ◌≤◌, ◌+◌, take}
use Rattle.settings.specs.Places.{column_behind, line_behind}
use Rattle.settings.proofs.fault.place_behind.Given as goal

-- the place behind the octets so far
abbrev pub invariant-loop-octet : goal.invariant-loop-octet
invariant-loop-octet l = record {
  line : l.line ≡ line_behind (take l.octet-index l.before);
  column : l.column ≡ column_behind (take l.octet-index l.before);
  few : l.column ≤ l.octet-index + 1;
}
