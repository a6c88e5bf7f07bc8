use Rattle.std.proofs.Common.{◌≡◌, ◌++◌, drop}
use Rattle.std.specs.String.{string_bytes}
use Rattle.status_page.specs.Metrics.{pool_sample}
use Rattle.status_page.specs.Texts.{numbered}
use Rattle.status_page.proofs.metrics_page.push_pool_metric.Given as goal

-- what was written, with what is left to be written, is the whole text
abbrev pub invariant-loop-place : goal.invariant-loop-place
invariant-loop-place l = string_bytes l.out ++ numbered (pool_sample l.metric) l.place (drop l.place l.pools)
    ≡ string_bytes l.initial.out ++ numbered (pool_sample l.metric) 0 l.pools
