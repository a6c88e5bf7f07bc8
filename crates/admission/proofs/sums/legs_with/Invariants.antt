use Rattle.std.proofs.Common.{◌≡◌, ◌<◌, ◌^◌, ◌+◌, length}
use Rattle.std.specs.List.{sum_by}
use Rattle.indexmap.specs.IndexMap.{values}
use Rattle.admission.specs.Calls.{leg_count}
use Rattle.admission.proofs.sums.legs_with.Given as goal

abbrev pub invariant-loop-call : goal.invariant-loop-call
invariant-loop-call l = record {
  so_far : l.count + sum_by (leg_count l.endpoint) l.call-iterator
      ≡ sum_by (leg_count l.endpoint) (values l.calls);
  fits : l.count + length l.call-iterator < 2 ^ 63;
}
