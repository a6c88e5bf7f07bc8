use Rattle.std.proofs.Common.{◌∙◌, arith, inl, refl, sym, subst}
use Rattle.ras_machine.specs.Soundness.{Sound}
use Rattle.history.proofs.Acts.{order_opening}
use Rattle.history.proofs.world.World.new.Goals as goal
use Rattle.history.proofs.world.World.new.Goals.{then-workers-eq0-via-then-workers-eq0}
use Rattle.history.proofs.world.World.new.Goals.{then-workers-eq0-via-else-workers-eq0+then-workers-gt16}
use Rattle.history.proofs.world.World.new.Goals.{then-workers-eq0-via-else-workers-eq0+else-workers-gt16+then-capacity-eq0}
use Rattle.history.proofs.world.World.new.Goals.{then-workers-eq0-via-else-workers-eq0+else-workers-gt16+else-capacity-eq0+then-capacity-gt4096}

pub invariant_of-result : goal.invariant_of-result
invariant_of-result g c =
    let base = c.new.ensures.base in
    let sound = subst Sound (c.machine.ensures.machine ∙ sym base) c.machine.ensures.sound in
    order_opening c.new.result.base c.args.zone c.new.result.entries.items c.in-Ok-idle.all.items
    c.args.workers c.args.capacity
    (base ∙ c.in-Ok.ensures) sound c.new.ensures.entries c.in-Ok-idle.ensures

pub returns-clause-order : goal.returns-clause-order
returns-clause-order g c = invariant_of-result g c

pub returns-then-workers-eq0-clause-fault : goal.returns-then-workers-eq0-clause-fault
returns-then-workers-eq0-clause-fault g c = inl (
  refl,
  λ range. elim c.then-workers-eq0.branch [
    | then-workers-eq0-via-then-workers-eq0 w ↦
        omega (arith, range.some, w.if-workers-eq0.true)
    | then-workers-eq0-via-else-workers-eq0+then-workers-gt16 w ↦
        omega (arith, range.most, w.if-workers-gt16.true)
    | then-workers-eq0-via-else-workers-eq0+else-workers-gt16+then-capacity-eq0 w ↦
        omega (arith, range.room, w.if-capacity-eq0.true)
    | then-workers-eq0-via-else-workers-eq0+else-workers-gt16+else-capacity-eq0+then-capacity-gt4096
        w ↦
        omega (arith, range.largest, w.if-capacity-gt4096.true)
  ],
)
