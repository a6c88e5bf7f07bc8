use Rattle.std.proofs.Common.{◌≡◌, ◌≤◌, vec_len, vec_capacity}
use Rattle.udp_server.proofs.tally.Tallies.new.Given as goal

abbrev pub invariant-loop-worker : goal.invariant-loop-worker
invariant-loop-worker l = record {
  count : vec_len l.tallies ≡ l._worker;
  room : l.workers ≤ vec_capacity l.tallies;
}
