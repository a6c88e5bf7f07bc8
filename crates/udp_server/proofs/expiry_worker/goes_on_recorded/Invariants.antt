use Rattle.udp_server.specs.KeptChapters.{kept_of}
use Rattle.udp_server.specs.Ticks.{IsTurnOfRound, is_more_due_after, recording}
use Rattle.udp_server.specs.Working.{standing}
use Rattle.udp_server.proofs.Ticks.{AreBusy}
use Rattle.udp_server.proofs.expiry_worker.goes_on_recorded.Given as goal

-- the turns so far, in each of which something was due
abbrev pub invariant-loop : goal.invariant-loop
invariant-loop g l =
    AreBusy (IsTurnOfRound g.D.Hall.opened g.C.Moments.tells l.fn.shared.plan) is_more_due_after
    l.counter
    (recording (standing l.fn.worker.seat l.fn.worker.outlet l.fn.worker.counts)
    (kept_of l.fn.chapters))
    (recording (standing l.worker.seat l.worker.outlet l.worker.counts) (kept_of l.chapters))
