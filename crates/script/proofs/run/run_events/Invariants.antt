use Rattle.std.proofs.Common.{◌≡◌, ◌++◌, length, map}
use Rattle.std.specs.Vec.Iter.{into_iter_items, into_iter_len}
use Rattle.script.specs.Events.{fresh_pools}
use Rattle.script.proofs.Running.{Ran}
use Rattle.script.proofs.run.run_events.Given as goal

-- The events so far were run and printed, and as many fresh pools are left as the other events
-- name.
abbrev pub invariant-loop-event : goal.invariant-loop-event
invariant-loop-event g l = record {
  split : l.yielded ++ into_iter_items l.event-iterator ≡ l.fn.events.items;
  left : into_iter_len l.event-iterator ≡ length (into_iter_items l.event-iterator);
  count : l.number ≡ length l.yielded;
  enough : length (into_iter_items l.fresh)
      ≡ length (fresh_pools (into_iter_items l.event-iterator));
  ran : Ran l.fn.zone l.fn.events.items (map g.P.Pool.account l.fn.fresh.items) l.number
      (into_iter_items l.event-iterator) (map g.P.Pool.account (into_iter_items l.fresh)) l.zone
      l.fn.out.contents l.out.contents;
}
