use Rattle.std.proofs.Common.{refl}
use Rattle.admission.proofs.CountedCalls.{AreCounted-same}
use Rattle.admission.proofs.StoredCalls.{IsConsistent-stored}
use Rattle.admission.proofs.table.Calls.reserve.Goals as goal

pub invariant_of-self : goal.invariant_of-self
invariant_of-self c = AreCounted-same c.self.inside.calls c.reserve.new.self c.self.inside.most
    c.self.inside.in_use c.self.invariant c.reserve.ensures.entries

pub returns-clause-sound : goal.returns-clause-sound
returns-clause-sound c =
    IsConsistent-stored c.reserve.new.self c.self.inside.most _ (invariant_of-self c).stored refl
