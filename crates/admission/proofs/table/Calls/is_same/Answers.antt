use Rattle.std.proofs.Common.{true}
use Rattle.keyed.proofs.Entries.{key_of, value_of}
use Rattle.keyed.proofs.Same.{both_have, one_lacks}
use Rattle.ras_module.proofs.CallKeyOrder.{call_key_cmp_total, call_key_cmp-IsAntisymmetric}
use Rattle.admission.proofs.StoredCalls.{IsMapOf-stored}
use Rattle.admission.proofs.table.Calls.is_same.Goals as goal

pub returns-then-has_all : goal.returns-then-has_all
returns-then-has_all c =
    let mine = c.self.inside in
    let theirs = c.other.inside in
    both_have call_key_cmp_total call_key_cmp-IsAntisymmetric key_of value_of
    mine.calls.entries theirs.calls.entries c.args.self.now.calls c.args.other.now.calls
    (IsMapOf-stored mine.calls mine.most c.args.self.now c.self.invariant.stored c.self.view_is)
    (IsMapOf-stored theirs.calls theirs.most c.args.other.now c.other.invariant.stored
    c.other.view_is)
    true c.has_all-then-has_all.result c.if-has_all.ensures c.has_all-then-has_all.ensures

pub returns-else-has_all : goal.returns-else-has_all
returns-else-has_all c =
    let theirs = c.other.inside in
    one_lacks call_key_cmp_total call_key_cmp-IsAntisymmetric key_of value_of
    theirs.calls.entries c.args.self.now.calls c.args.other.now.calls
    (IsMapOf-stored theirs.calls theirs.most c.args.other.now c.other.invariant.stored
    c.other.view_is)
    c.has_all.result c.has_all.ensures c.if-has_all.false
