use Rattle.std.proofs.Common.{◌≡◌, ◌+◌, ◌<◌, vec_len, vec_capacity}
use Rattle.std.specs.Vec.Iter.{into_iter_len}
use Rattle.udp_server.proofs.threads.join_all.Given as goal

-- each thread that is still to be joined has its place behind the records
abbrev pub invariant-loop-handle : goal.invariant-loop-handle
invariant-loop-handle g l =
    (goal.iterator-loop-handle g).can_next l.handle-iterator
    × (goal.iterator-loop-handle g).is_finite l.handle-iterator
    × (vec_len l.records + into_iter_len l.handle-iterator
    ≡ vec_len l.fn.records + vec_len l.fn.handles)
    × (vec_len l.fn.records + vec_len l.fn.handles < vec_capacity l.records)
