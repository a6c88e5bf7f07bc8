use Rattle.std.proofs.Common.{◌≡◌, [], replicate}
use Rattle.history.specs.declared.worker.Hand.TheVariants.{Idle}
use Rattle.history.specs.Workers.{WorkerState}
use Rattle.history.proofs.world.idle.Given as goal

abbrev pub invariant-loop-i : goal.invariant-loop-i
invariant-loop-i l = l.all.items ≡ replicate l.i
    (let k : WorkerState = record { hand = Idle; ring = []; settled = []; taken = 0 } in k)
