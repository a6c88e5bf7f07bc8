use Rattle.std.proofs.Common.{◌++◌, ℕ, List, subst}
use Rattle.std.proofs.KnownBytes.{Appends-trans}
use Rattle.std.proofs.lemmas.Slice.Zip.{Zip-more, either_empty_from_Zip}
use Rattle.std.specs.Io.KnownBytes.{Appends}
use Rattle.std.specs.Iterator.Adapters.{zip_first, zip_second}
use Rattle.std.specs.List.{flat_map, zip}
use Rattle.std.specs.Slice.Iter.{iter_rest}
use Rattle.settings.specs.Listing.{pool_listing}
use Rattle.settings.proofs.Listed.{none_left, pair_more}
use Rattle.settings.proofs.listing.write_pools.Goals as goal

pub loop-spec-preserved : goal.loop-spec-preserved
loop-spec-preserved g c =
    let at = c.loop-spec in
    let spec = c.in-Some.spec.now in
    let network = c.in-Some.network.now in
    let both = Zip-more at.spec-iterator c.next.new.self c.next.result
    (c.in-Some.spec, c.in-Some.network) c.in-Some.is c.next.ensures.steps in (
      at.invariant.0 ++ pool_listing (spec, network),
      Appends-trans (g.W.Write.contents c.args.out.now) (g.W.Write.contents at.out)
          (g.W.Write.contents c.write_pool.new.out) at.invariant.0 (pool_listing (spec, network))
          at.invariant.1 c.in_ok-write_pool.ensures,
      pair_more pool_listing at.invariant.0 (flat_map pool_listing (zip c.args.specs.now c.args.networks.now))
          (iter_rest (zip_first at.spec-iterator)) (iter_rest (zip_first c.next.new.self))
          (iter_rest (zip_second at.spec-iterator)) (iter_rest (zip_second c.next.new.self)) spec
          network both.0 both.1 at.invariant.2,
    )

pub returns : goal.returns
returns g c =
    let at = c.loop-spec in
    let ended = either_empty_from_Zip at.spec-iterator c.next.new.self c.next.result c.in-None.is
    c.next.ensures.steps in
    subst (λ (t : List ℕ). Appends (g.W.Write.contents c.args.out.now) (g.W.Write.contents at.out) t)
    (none_left pool_listing at.invariant.0 (flat_map pool_listing (zip c.args.specs.now c.args.networks.now))
    (iter_rest (zip_first at.spec-iterator)) (iter_rest (zip_second at.spec-iterator)) ended at.invariant.2)
    at.invariant.1
