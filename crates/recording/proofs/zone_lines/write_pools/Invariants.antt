use Rattle.std.proofs.Common.{◌≡◌, ◌++◌, ℕ, List, map}
use Rattle.std.specs.Io.KnownBytes.{Appends}
use Rattle.std.specs.Iterator.Adapters.{zip_first, zip_second}
use Rattle.std.specs.List.{zip}
use Rattle.std.specs.Slice.Iter.{iter_rest}
use Rattle.recording.specs.Zones.{pool_line_text, with_ends}
use Rattle.recording.proofs.zone_lines.write_pools.Given as goal

-- what was written, with the lines of the pairs that are left
abbrev pub invariant-loop-pool : goal.invariant-loop-pool
invariant-loop-pool g l =
    (written : List ℕ)
    × Appends (g.W.Write.contents l.initial.out) (g.W.Write.contents l.out) written
    × (written ++ with_ends (map pool_line_text (zip (iter_rest (zip_first l.pool-iterator))
    (iter_rest (zip_second l.pool-iterator))))
    ≡ with_ends (map pool_line_text (zip l.pools l.networks)))
