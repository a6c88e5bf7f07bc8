use Rattle.std.proofs.Common.{◌∙◌, ap, arith}
use Rattle.std.specs.Prelude.{not}
use Rattle.udp_server.specs.KeptChapters.{kept_of}
use Rattle.udp_server.specs.Ticks.{IsTurnOfRound, is_more_due_after, recording}
use Rattle.udp_server.specs.Working.{goes_on_after, standing}
use Rattle.udp_server.proofs.Ticks.{as_many_as_may_be, one_more, stays_after}
use Rattle.udp_server.proofs.expiry_worker.goes_on_recorded.Goals as goal

pub loop-preserved : goal.loop-preserved
loop-preserved g c =
    let start = c.args.worker.now in
    let old = c.loop.worker in
    let new = c.make_turn.new.worker in
    one_more (IsTurnOfRound g.D.Hall.opened g.C.Moments.tells c.args.shared.now.plan)
    is_more_due_after c.loop.counter
    (recording (standing start.seat start.outlet start.counts) (kept_of c.args.chapters.now))
    (recording (standing old.seat old.outlet old.counts) (kept_of c.loop.chapters))
    (recording (standing new.seat new.outlet new.counts) (kept_of c.make_turn.new.chapters))
    c.make_turn.result c.loop.invariant
    (ap is_more_due_after c.in-Made.is ∙ ap not c.if-is_idle.false) c.make_turn.ensures

pub returns-clause-tick : goal.returns-clause-tick
returns-clause-tick g c =
    let start = c.args.worker.now in
    let here = c.loop.worker in
    as_many_as_may_be (IsTurnOfRound g.D.Hall.opened g.C.Moments.tells c.args.shared.now.plan) 1000
    is_more_due_after goes_on_after c.loop.counter
    (recording (standing start.seat start.outlet start.counts) (kept_of c.args.chapters.now))
    (recording (standing here.seat here.outlet here.counts) (kept_of c.loop.chapters)) stays_after
    c.loop.invariant (omega (arith, c.loop-test.false, c.loop.auto.counter-end)) (omega arith)
