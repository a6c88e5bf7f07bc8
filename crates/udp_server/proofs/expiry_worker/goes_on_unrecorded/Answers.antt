use Rattle.std.proofs.Common.{◌∙◌, arith, sym}
use Rattle.udp_server.specs.Ticks.{AreTurnsOfRound, goes_on_after_turns, is_more_due}
use Rattle.udp_server.specs.Working.{standing}
use Rattle.udp_server.proofs.Ticks.{as_many_as_may_be, closed_if_over, one_more}
use Rattle.udp_server.proofs.Ticks.{stays_after_turns, until_none}
use Rattle.udp_server.proofs.expiry_worker.goes_on_unrecorded.Goals as goal

pub loop-preserved : goal.loop-preserved
loop-preserved g c =
    let start = c.args.worker.now in
    let old = c.loop.worker in
    let new = c.turns-end.new.self in
    one_more (AreTurnsOfRound g.D.Hall.opened g.C.Moments.tells 50) is_more_due c.loop.counter
    (standing start.seat start.outlet start.counts) (standing old.seat old.outlet old.counts)
    (standing new.seat new.outlet new.counts) c.turns-end.result c.loop.invariant
    (sym c.is_more_due.ensures ∙ c.if-not-is_more_due.false) (old.clock, c.turns-end.ensures.came)

pub returns-then-not-is_more_due-clause-closed : goal.returns-then-not-is_more_due-clause-closed
returns-then-not-is_more_due-clause-closed g c over =
    c.turns-end.ensures.closed (closed_if_over c.turns-end.result
    (sym c.goes_on_after.ensures ∙ over))

pub returns-then-not-is_more_due-clause-tick : goal.returns-then-not-is_more_due-clause-tick
returns-then-not-is_more_due-clause-tick g c =
    let start = c.args.worker.now in
    let old = c.loop.worker in
    let new = c.turns-end.new.self in
    until_none (AreTurnsOfRound g.D.Hall.opened g.C.Moments.tells 50) 20 is_more_due
    goes_on_after_turns c.goes_on_after.result c.loop.counter
    (standing start.seat start.outlet start.counts) (standing old.seat old.outlet old.counts)
    (standing new.seat new.outlet new.counts) c.turns-end.result c.loop.invariant
    c.loop-test.true (sym c.is_more_due.ensures ∙ c.if-not-is_more_due.true)
    (old.clock, c.turns-end.ensures.came) c.goes_on_after.ensures

pub returns-clause-tick : goal.returns-clause-tick
returns-clause-tick g c =
    let start = c.args.worker.now in
    let here = c.loop.worker in
    as_many_as_may_be (AreTurnsOfRound g.D.Hall.opened g.C.Moments.tells 50) 20 is_more_due
    goes_on_after_turns c.loop.counter (standing start.seat start.outlet start.counts)
    (standing here.seat here.outlet here.counts) stays_after_turns c.loop.invariant
    (omega (arith, c.loop-test.false, c.loop.auto.counter-end)) (omega arith)
