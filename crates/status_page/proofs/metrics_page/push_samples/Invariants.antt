use Rattle.std.proofs.Common.{◌≡◌, ◌++◌, drop}
use Rattle.std.specs.String.{string_bytes}
use Rattle.status_page.specs.Metrics.{samples}
use Rattle.status_page.proofs.metrics_page.push_samples.Given as goal

-- what was written, with what is left to be written, is the whole text
abbrev pub invariant-loop-kind : goal.invariant-loop-kind
invariant-loop-kind l = string_bytes l.out ++ samples l.name l.key l.counts (drop l.kind-index l.kinds)
    ≡ string_bytes l.initial.out ++ samples l.name l.key l.counts l.kinds
