use Rattle.std.proofs.Common.{◌≡◌, ◌++◌, map, vec_len}
use Rattle.std.specs.Vec.Iter.{into_iter_items}
use Rattle.udp_server.specs.WorkerNumbers.{numbers_below}
use Rattle.udp_server.proofs.server.workers_of.Given as goal

-- the seats of the workers so far, and those that are still to come; and the workers' numbers
abbrev pub invariant-loop-seat : goal.invariant-loop-seat
invariant-loop-seat g l = record {
  seats : map (λ w. w.seat) l.workers.items ++ into_iter_items l.seat-iterator ≡ l.fn.seats.items;
  numbers : map (λ w. w.number) l.workers.items ≡ numbers_below (vec_len l.workers);
}
