use Rattle.std.proofs.Common.{◌≡◌, ◌≤◌, vec_len, vec_capacity}
use Rattle.std.specs.Prelude.{All}
use Rattle.udp_socket.specs.Limits.{receives_left}
use Rattle.gatekeeper.proofs.over_socket.ends_of.Given as goal

abbrev pub invariant-loop-end : goal.invariant-loop-end
invariant-loop-end g l = record {
  count : vec_len l.ends ≡ l._end;
  room : l.service.receivers ≤ vec_capacity l.ends;
  receives : All (λ end. receives_left end ≡ l.service.receives) l.ends.items;
}
