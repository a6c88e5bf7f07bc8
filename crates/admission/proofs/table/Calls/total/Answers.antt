use Rattle.std.proofs.Common.{◌∙◌, ap}
use Rattle.admission.specs.Calls.{in_use}
use Rattle.admission.proofs.KeptSums.{small_total}
use Rattle.admission.proofs.table.Calls.total.Goals as goal

pub returns-clause-sum : goal.returns-clause-sum
returns-clause-sum c = c.self.invariant.sums.total ∙ ap (λ t. in_use t.calls) c.self.view_is

pub returns-clause-bound : goal.returns-clause-bound
returns-clause-bound c = small_total c.self.inside.calls c.self.inside.most c.self.invariant.stored
    c.self.inside.in_use c.self.invariant.sums
