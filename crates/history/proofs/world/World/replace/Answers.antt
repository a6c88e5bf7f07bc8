use Rattle.std.proofs.Common.{◌≡◌, ◌∙◌, arith, length, subst, sym}
use Rattle.pools.specs.declared.interface.Figures.{Figures}
use Rattle.zone_events.specs.declared.change.Change.{Change}
use Rattle.zone_events.specs.declared.change.Change.TheVariants as change
use Rattle.ras_core.specs.Runs.{RunningChange, RunningReplacement}
use Rattle.history.specs.Worlds.{Scene}
use Rattle.history.proofs.Acts.{do_replace}
use Rattle.history.proofs.world.World.replace.Goals as goal

pub invariant_of-self-2 : goal.invariant_of-self-2
invariant_of-self-2 g c =
    let x : Scene = record {
      base = c.self.inside.book.base;
      zone = c.self.inside.zone;
      entries = c.self.inside.book.entries.items;
      workers = c.self.inside.workers.items;
      capacity = c.self.inside.capacity;
    } in
    let what : Change = change.PoolChange (record {
      pool = c.args.pool;
      offered = c.figures_of.result;
      moment = c.args.moment;
    }) in
    let step : RunningChange x.zone what c.in_ok-outcome.outcome c.replace.new.self =
    subst (λ (f : Figures). RunningReplacement x.zone (record {
      pool = c.args.pool;
      offered = f;
      moment = c.args.moment;
    }) c.in_ok-outcome.outcome c.replace.new.self) (sym c.figures_of.ensures)
    c.in_ok-outcome.ensures.step in
    let seat : c.len-seat.result ≡ length x.workers =
    omega (arith, c.len-seat.ensures, c.self.inside.workers.ok.0) in
    do_replace x c.len-seat.result c.count_of_seat-call.result what c.in_ok-outcome.outcome
    c.replace.new.self c.add_reserved.new.self.base c.deref.result.now
    c.reserve_entry.new.self.entries.items c.add_reserved.new.self.entries.items c.self.invariant
    seat c.count_of_seat-call.ensures c.deref.ensures.value c.reserve_entry.ensures.entries
    (c.add_reserved.ensures.base ∙ c.reserve_entry.ensures.base) c.add_reserved.ensures.entries
    step

pub returns-clause-order : goal.returns-clause-order
returns-clause-order g c = invariant_of-self-2 g c
