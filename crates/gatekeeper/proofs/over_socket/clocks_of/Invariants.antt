use Rattle.std.proofs.Common.{◌≡◌, ◌≤◌, vec_len, vec_capacity}
use Rattle.std.specs.Prelude.{All}
use Rattle.gatekeeper.specs.Clocks.{beginning}
use Rattle.gatekeeper.proofs.over_socket.clocks_of.Given as goal

abbrev pub invariant-loop-clock : goal.invariant-loop-clock
invariant-loop-clock g l = record {
  count : vec_len l.clocks ≡ l._clock;
  room : l.count ≤ vec_capacity l.clocks;
  began : All (λ clock. beginning clock ≡ l.start) l.clocks.items;
}
