use Rattle.std.proofs.Common.{◌∙◌}
use Rattle.admission.specs.Calls.{leg_count}
use Rattle.admission.proofs.StoredCalls.{sum_stored}
use Rattle.admission.proofs.table.Calls.legs_of.Goals as goal

pub returns : goal.returns
returns c =
    c.legs_with.ensures ∙ sum_stored c.self.inside.calls c.self.inside.most c.args.self.now
    c.self.invariant.stored c.self.view_is (leg_count c.args.endpoint.now)
