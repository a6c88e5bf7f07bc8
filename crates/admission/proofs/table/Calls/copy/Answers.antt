use Rattle.admission.proofs.CountedCalls.{AreCounted-same}
use Rattle.admission.proofs.table.Calls.copy.Goals as goal

pub invariant_of-result : goal.invariant_of-result
invariant_of-result c =
    AreCounted-same c.self.inside.calls c.in_ok-calls.calls c.self.inside.most
    c.self.inside.in_use c.self.invariant c.in_ok-calls.ensures
