use Rattle.std.proofs.Common.{◌∷◌, ◌++◌, [], ap, sym, ◌∙◌, subst, List, take, ◌+◌}
use Rattle.zone_events.specs.declared.outcome.Outcome.{Outcome}
use Rattle.ras_core.specs.Runs.{RunsOn}
use Rattle.ras_core.proofs.Runs.{runs_on}
use Rattle.ras_core.proofs.zone.Zone.run.Goals as goal

pub loop-i-preserved : goal.loop-i-preserved
loop-i-preserved g c =
    let now =
    sym (c.append.ensures ∙ ap (λ os. os ++ c.in-Ok.outcome ∷ []) c.reserve.ensures.items) in
    record {
      run = subst (λ (os : List Outcome). RunsOn c.args.self.now
          (take (c.loop-i.i + 1) c.args.events.now)
          c.args.outcomes.now.items os c.step_at.new.self) now
          (runs_on c.args.self.now c.loop-i.self c.step_at.new.self c.args.events.now c.loop-i.i
          c.index-events-i.result c.args.outcomes.now.items c.loop-i.outcomes.items c.in-Ok.outcome
          c.loop-i-test.true c.index-events-i.is c.loop-i.invariant.run
          c.in-Ok.ensures.step);
      sound = c.in-Ok.ensures.sound;
    }
