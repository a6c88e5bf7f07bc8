use Rattle.std.proofs.Common.{ap, ◌∙◌}
use Rattle.std.specs.FinMap as map
use Rattle.admission.proofs.StoredCalls.{get_call, IsConsistent-stored}
use Rattle.admission.proofs.table.Calls.get.Goals as goal

pub returns-clause-found : goal.returns-clause-found
returns-clause-found c = c.get.ensures.value ∙ (get_call c.self.inside.calls c.args.key.now
    ∙ ap (λ t. map.get t.calls c.args.key.now) c.self.view_is)

pub returns-clause-sound : goal.returns-clause-sound
returns-clause-sound c = IsConsistent-stored c.self.inside.calls c.self.inside.most c.args.self.now
    c.self.invariant.stored c.self.view_is
