use Rattle.std.proofs.Common.{inl, inr}
use Rattle.std.specs.Prelude.{Bool, IsTrue}
use Rattle.std.proofs.lemmas.Result.{err_from_is_err_and}
use Rattle.surroundings.specs.declared.serving_fault.RunningFault.{RunningFault}
use Rattle.gatekeeper.specs.Serves.{IsPagedFault, IsServeFault}
use Rattle.gatekeeper.proofs.serve.serve_pools.Goals as goal

-- the fault of a server with a planned record is that of one of which a record is asked for
widened : {has_page is_planned is_asked : Bool} {fault : RunningFault}
    → (IsTrue is_planned → IsTrue is_asked)
    → IsPagedFault has_page is_planned fault → IsServeFault has_page is_asked fault
widened asked (inl page) = inr (inr (inl page))
widened asked (inr (inl (is, planned))) = inr (inr (inr (inl (is, asked planned))))
widened asked (inr (inr server)) = inr (inr (inr (inr server)))

pub returns-in_err-report-clause-fault : goal.returns-in_err-report-clause-fault
returns-in_err-report-clause-fault g c =
    let p = err_from_is_err_and c.from_residual-in_err-report.result
    c.from_residual-in_err-report.ensures.1 in
    rw (p.1, p.2) (widened c.in_ok-planned.ensures.planned.0 c.in_err-report.ensures.fault)
