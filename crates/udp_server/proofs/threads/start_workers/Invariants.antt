use Rattle.std.proofs.Common.{◌≡◌, ◌≤◌, ◌+◌, vec_len, vec_capacity}
use Rattle.std.specs.Vec.Iter.{into_iter_len}
use Rattle.udp_server.proofs.threads.start_workers.Given as goal

-- each worker that is still to come has its place behind the handles
abbrev pub invariant-loop-post : goal.invariant-loop-post
invariant-loop-post g l =
    (goal.iterator-loop-post g).can_next l.post-iterator
    × (goal.iterator-loop-post g).is_finite l.post-iterator
    × (vec_len l.handles + into_iter_len l.post-iterator ≡ vec_len l.fn.posts)
    × (vec_len l.fn.posts ≤ vec_capacity l.handles)
