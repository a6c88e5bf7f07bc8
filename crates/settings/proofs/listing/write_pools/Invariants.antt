use Rattle.std.proofs.Common.{◌≡◌, ◌++◌, ℕ, List}
use Rattle.std.specs.Io.KnownBytes.{Appends}
use Rattle.std.specs.Iterator.Adapters.{zip_first, zip_second}
use Rattle.std.specs.List.{flat_map, zip}
use Rattle.std.specs.Slice.Iter.{iter_rest}
use Rattle.settings.specs.Listing.{pool_listing}
use Rattle.settings.proofs.listing.write_pools.Given as goal

-- what was written, with the lines of the pairs that are left
abbrev pub invariant-loop-spec : goal.invariant-loop-spec
invariant-loop-spec g l =
    (written : List ℕ)
    × Appends (g.W.Write.contents l.initial.out) (g.W.Write.contents l.out) written
    × (written ++ flat_map pool_listing (zip (iter_rest (zip_first l.spec-iterator))
    (iter_rest (zip_second l.spec-iterator)))
    ≡ flat_map pool_listing (zip l.specs l.networks))
