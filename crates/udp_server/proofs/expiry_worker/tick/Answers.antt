use Rattle.std.proofs.Common.{◌≡◌, ◌∙◌, subst, sym}
use Rattle.std.specs.Prelude.{Bool, false, true}
use Rattle.udp_server.specs.KeptChapters.{kept_of}
use Rattle.udp_server.specs.Plans.{has_history}
use Rattle.udp_server.specs.Ticks.{recording}
use Rattle.udp_server.specs.WholeTicks.{AreTurnsOfTick}
use Rattle.udp_server.specs.Working.{standing}
use Rattle.udp_server.proofs.expiry_worker.tick.Goals as goal

pub returns-then-is_recorded-clause-tick : goal.returns-then-is_recorded-clause-tick
returns-then-is_recorded-clause-tick g c =
    let then = c.carry_out.new.worker in
    let new = c.goes_on_recorded.new.worker in
    let is : has_history c.args.shared.now.plan ≡ true =
    sym c.is_recorded.ensures ∙ c.if-is_recorded.true in
    record {
      then = standing then.seat then.outlet then.counts;
      orders = c.carry_out.ensures.tried;
      turns = subst (λ (r : Bool). AreTurnsOfTick g.D.Hall.opened g.C.Moments.tells
          c.args.shared.now.plan r c.goes_on_recorded.result
          (recording (standing then.seat then.outlet then.counts) (kept_of c.args.chapters.now))
          (recording (standing new.seat new.outlet new.counts)
          (kept_of c.goes_on_recorded.new.chapters))) (sym is) c.goes_on_recorded.ensures.tick;
    }
