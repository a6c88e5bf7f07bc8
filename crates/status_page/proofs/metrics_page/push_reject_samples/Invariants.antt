use Rattle.std.proofs.Common.{◌≡◌, ◌++◌, drop, flat_map}
use Rattle.std.specs.String.{string_bytes}
use Rattle.zone_view.specs.Counts.{count_at}
use Rattle.zone_view.specs.declared.count.Count.TheVariants as count
use Rattle.status_page.specs.Metrics.{reject_sample}
use Rattle.status_page.proofs.metrics_page.push_reject_samples.Given as goal

-- what was written, with what is left to be written, is the whole text
abbrev pub invariant-loop-reject : goal.invariant-loop-reject
invariant-loop-reject l =
    string_bytes l.out ++ flat_map (λ which. reject_sample which (count_at (count.Reject which) l.counts)) (drop l.reject-index l.rejects)
    ≡ string_bytes l.initial.out ++ flat_map (λ which. reject_sample which (count_at (count.Reject which) l.counts)) l.rejects
