use Rattle.std.proofs.Common.{rules, ◌≡◌, ◌++◌, ℕ, List, [], codes, map, subst}
use Rattle.std.proofs.KnownBytes.{Appends-nil, Appends-trans}
use Rattle.std.proofs.lemmas.Slice.Zip.{Zip-more, either_empty_from_Zip}
use Rattle.std.specs.Io.KnownBytes.{Appends}
use Rattle.std.specs.Iterator.Adapters.{zip_first, zip_second}
use Rattle.std.specs.List.{zip}
use Rattle.std.specs.Slice.Iter.{iter_rest}
use Rattle.recording.specs.Zones.{pool_line_text, with_ends}
use Rattle.recording.proofs.LinesWritten.{none_left, pair_more}
use Rattle.recording.proofs.zone_lines.write_pools.Goals as goal

pub loop-pool-init : goal.loop-pool-init
loop-pool-init g c =
    let gives = c.into_iter-pool-iterator.ensures.into_iter_gives in
    let first : iter_rest (zip_first c.into_iter-pool-iterator.result) ≡ c.args.pools.now =
    search (rules, gives, c.zip-pool-items.ensures.first, c.iter.ensures.rest) in
    let second : iter_rest (zip_second c.into_iter-pool-iterator.result) ≡ c.args.networks.now =
    search (rules, gives, c.zip-pool-items.ensures.second) in (
      [],
      Appends-nil (g.W.Write.contents c.args.out.now),
      λ i. with_ends (map pool_line_text (zip (first i) (second i))),
    )

pub loop-pool-preserved : goal.loop-pool-preserved
loop-pool-preserved g c =
    let at = c.loop-pool in
    let pool = c.in-Some.pool.now in
    let network = c.in-Some.network.now in
    let both = Zip-more at.pool-iterator c.next.new.self c.next.result
    (c.in-Some.pool, c.in-Some.network) c.in-Some.is c.next.ensures.steps in (
      at.invariant.0 ++ (pool_line_text (pool, network) ++ codes "\n"),
      Appends-trans (g.W.Write.contents c.args.out.now) (g.W.Write.contents at.out)
          (g.W.Write.contents c.write_pool_line.new.out) at.invariant.0
          (pool_line_text (pool, network) ++ codes "\n") at.invariant.1
          c.in_ok-write_pool_line.ensures,
      pair_more pool_line_text at.invariant.0
          (with_ends (map pool_line_text (zip c.args.pools.now c.args.networks.now)))
          (iter_rest (zip_first at.pool-iterator)) (iter_rest (zip_first c.next.new.self))
          (iter_rest (zip_second at.pool-iterator)) (iter_rest (zip_second c.next.new.self)) pool
          network both.0 both.1 at.invariant.2,
    )

pub returns : goal.returns
returns g c =
    let at = c.loop-pool in
    let ended = either_empty_from_Zip at.pool-iterator c.next.new.self c.next.result c.in-None.is
    c.next.ensures.steps in
    subst (λ (t : List ℕ). Appends (g.W.Write.contents c.args.out.now)
    (g.W.Write.contents at.out) t)
    (none_left pool_line_text at.invariant.0
    (with_ends (map pool_line_text (zip c.args.pools.now c.args.networks.now)))
    (iter_rest (zip_first at.pool-iterator)) (iter_rest (zip_second at.pool-iterator)) ended
    at.invariant.2)
    at.invariant.1
