use Rattle.std.proofs.Common.{◌≡◌}
use Rattle.std.specs.Prelude.{IfSome}
use Rattle.udp_server.proofs.sender.send_all.Given as goal

-- if all have ended, they are as many as are awaited
abbrev pub invariant-loop : goal.invariant-loop
invariant-loop g l = IfSome l.all_ended (λ all. all.awaited ≡ l.fn.workers)
