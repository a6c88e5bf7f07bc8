-- What workers leave together.
use Rattle.std.specs.Prelude.{◌+◌, ℕ, List, min, sum_by}
use Rattle.udp_server.specs.declared.worker.Counts.{Counts}
use Rattle.udp_server.specs.Ends.{most_count}

-- what both counted together
abbrev pub counts_of_both : Counts → Counts → Counts
counts_of_both some more = record {
  dropped = min (some.dropped + more.dropped) most_count;
  refused = min (some.refused + more.refused) most_count;
  faults = min (some.faults + more.faults) most_count;
}

-- what all of these counted together, each as told; a count stays at the greatest number it has
abbrev pub joint_count : {X : Type 0} → (X → ℕ) → List X → ℕ
joint_count counted all = min (sum_by counted all) most_count
