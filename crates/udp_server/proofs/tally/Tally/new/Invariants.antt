use Rattle.std.proofs.Common.{◌≡◌, ◌≤◌, vec_len, vec_capacity}
use Rattle.udp_server.proofs.tally.Tally.new.Given as goal

abbrev pub invariant-loop-number : goal.invariant-loop-number
invariant-loop-number l = record {
  count : vec_len l.numbers ≡ l._number;
  room : 91 ≤ vec_capacity l.numbers;
}
