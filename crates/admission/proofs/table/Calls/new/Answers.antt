use Rattle.std.proofs.Common.{refl, sym, ap, subst}
use Rattle.admission.specs.Calls.{open_calls_of}
use Rattle.admission.specs.inside.Sums.{AreSums}
use Rattle.admission.proofs.KeptSums.{AreSums-empty}
use Rattle.admission.proofs.StoredCalls.{AreStored-empty, IsConsistent-stored}
use Rattle.admission.proofs.table.Calls.new.Goals as goal

pub invariant_of-result : goal.invariant_of-result
invariant_of-result c = record {
  stored = AreStored-empty c.new.result c.args.most c.new.ensures.empty c.requires.few;
  sums = subst (AreSums c.none.result) (sym (ap open_calls_of c.new.ensures.empty))
      (AreSums-empty c.none.result c.none.ensures);
}

pub returns-clause-sound : goal.returns-clause-sound
returns-clause-sound c =
    IsConsistent-stored c.new.result c.args.most _ (invariant_of-result c).stored refl
