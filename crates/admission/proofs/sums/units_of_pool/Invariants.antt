use Rattle.std.proofs.Common.{◌≡◌, ◌≤◌, ◌+◌, ◌*◌, length}
use Rattle.std.specs.List.{sum_by}
use Rattle.indexmap.specs.IndexMap.{values}
use Rattle.admission.specs.Calls.{units_from}
use Rattle.admission.proofs.sums.units_of_pool.Given as goal

abbrev pub invariant-loop-call : goal.invariant-loop-call
invariant-loop-call l = record {
  so_far : l.sum + sum_by (units_from l.pool) l.call-iterator
      ≡ sum_by (units_from l.pool) (values l.calls);
  fits : l.sum + 4294967295 * length l.call-iterator ≤ 4294967295 * 20000;
}
