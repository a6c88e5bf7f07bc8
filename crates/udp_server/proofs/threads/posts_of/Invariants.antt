use Rattle.std.proofs.Common.{◌≡◌, ◌++◌, map}
use Rattle.std.specs.Vec.Iter.{into_iter_items}
use Rattle.udp_server.proofs.threads.posts_of.Given as goal

-- the ends and the workers of the posts so far, and those that are still to come
abbrev pub invariant-loop-end : goal.invariant-loop-end
invariant-loop-end g l = record {
  ends : map (λ p. p.end) l.posts.items ++ into_iter_items l.end-iterator ≡ l.fn.receivers.items;
  workers : map (λ p. p.worker) l.posts.items ++ into_iter_items l.workers ≡ l.fn.workers.items;
}
