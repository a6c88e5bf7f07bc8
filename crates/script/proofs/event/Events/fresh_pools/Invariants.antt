use Rattle.std.proofs.Common.{◌≡◌, take}
use Rattle.script.specs.Events.{fresh_pools}
use Rattle.script.proofs.event.Events.fresh_pools.Given as goal

abbrev pub invariant-loop-event : goal.invariant-loop-event
invariant-loop-event l = l.specs.items ≡ fresh_pools (take l.event-index l.event-items)
