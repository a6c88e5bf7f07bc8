-- Calls that are numbered.
use Rattle.std.proofs.Common.{◌≡◌, ◌∙◌, ap, length, sym}
use Rattle.std.specs.FinMap as fin
use Rattle.keyed.proofs.Entries.{len_entries}
use Rattle.ras_module.specs.Same.{call_key_decides}
use Rattle.ras_module.proofs.CallKeyOrder.{call_key_cmp_total, call_key_cmp-IsAntisymmetric}
use Rattle.admission.specs.Calls.{AreNumbered, CallTable}

-- the number of calls is the number of those that are numbered
pub len_numbered : (t : CallTable) → AreNumbered t → fin.len t.calls ≡ length t.order
len_numbered t numbered = ap fin.len (sym numbered.all)
    ∙ len_entries call_key_decides call_key_cmp_total call_key_cmp-IsAntisymmetric t.order
    numbered.once
