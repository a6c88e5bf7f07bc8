use Rattle.udp_server.specs.Ticks.{AreTurnsOfRound, is_more_due}
use Rattle.udp_server.specs.Working.{standing}
use Rattle.udp_server.proofs.Ticks.{AreBusy}
use Rattle.udp_server.proofs.expiry_worker.goes_on_unrecorded.Given as goal

-- the rounds so far, in each of which as many turns were made as may be
abbrev pub invariant-loop : goal.invariant-loop
invariant-loop g l =
    AreBusy (AreTurnsOfRound g.D.Hall.opened g.C.Moments.tells 50) is_more_due l.counter
    (standing l.fn.worker.seat l.fn.worker.outlet l.fn.worker.counts)
    (standing l.worker.seat l.worker.outlet l.worker.counts)
