use Rattle.std.proofs.Common.{IfOk, subst}
use Rattle.ras_machine.specs.State.{State}
use Rattle.udp_server.specs.Served.{IsServed}
use Rattle.udp_server.proofs.server.open_and_serve.Goals as goal

-- the state that the first ledger has as the opening one is that of the zone
pub returns-in-Ok-clause-served : goal.returns-in-Ok-clause-served
returns-in-Ok-clause-served g c = subst
    (λ (s : State). IfOk c.serve_watched.result (λ r. IsServed s r.finished r.datagrams r.turns
    r.changes))
    c.requires.opened.1 c.serve_watched.ensures.served
