use Rattle.std.proofs.Common.{sym, ◌∙◌}
use Rattle.admission.proofs.StoredCalls.{AreNumbered-stored, IsConsistent-stored, len_stored}
use Rattle.admission.proofs.table.Calls.len.Goals as goal

pub returns-clause-len : goal.returns-clause-len
returns-clause-len c = c.len.ensures.len ∙ sym (len_stored c.self.inside.calls c.self.inside.most
    c.args.self.now c.self.invariant.stored c.self.view_is)

pub returns-clause-sound : goal.returns-clause-sound
returns-clause-sound c = IsConsistent-stored c.self.inside.calls c.self.inside.most c.args.self.now
    c.self.invariant.stored c.self.view_is

pub returns-clause-numbered : goal.returns-clause-numbered
returns-clause-numbered c = AreNumbered-stored c.self.inside.calls c.self.inside.most
    c.args.self.now c.self.invariant.stored c.self.view_is
