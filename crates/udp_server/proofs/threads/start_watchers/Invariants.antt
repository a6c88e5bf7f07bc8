use Rattle.std.proofs.Common.{◌≤◌, ◌+◌, vec_len, vec_capacity}
use Rattle.std.specs.Vec.Iter.{into_iter_len}
use Rattle.udp_server.proofs.threads.start_watchers.Given as goal

-- each of those who are still to come has a place behind the handles
abbrev pub invariant-loop-watcher : goal.invariant-loop-watcher
invariant-loop-watcher g l =
    (goal.iterator-loop-watcher g).can_next l.watcher-iterator
    × (goal.iterator-loop-watcher g).is_finite l.watcher-iterator
    × (vec_len l.handles + into_iter_len l.watcher-iterator ≤ vec_len l.fn.watchers)
    × (vec_len l.fn.watchers ≤ vec_capacity l.handles)
