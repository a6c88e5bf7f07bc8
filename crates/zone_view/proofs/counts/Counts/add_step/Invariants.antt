use Rattle.std.proofs.Common.{◌≡◌, drop}
use Rattle.zone_view.specs.Counts.{with_each}
use Rattle.zone_view.proofs.counts.Counts.add_step.Given as goal

-- what is left to be added to the counts gives all of it
abbrev pub invariant-loop-count : goal.invariant-loop-count
invariant-loop-count l =
    with_each l.count-items l.initial.self
    ≡ with_each (drop l.count-index l.count-items) l.self
