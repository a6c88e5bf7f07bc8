use Rattle.std.proofs.Common.{◌≡◌, ap, sym, ◌∙◌, rules}
use Rattle.std.specs.FinMap as fin
use Rattle.std.specs.List.Sorted.{IsPermutation, IsSortedByKey}
use Rattle.std.proofs.lemmas.Fn.{always_returns_same}
use Rattle.keyed.proofs.Lists.{sorted_rows}
use Rattle.ras_module.specs.CallKeys.{call_key_cmp}
use Rattle.ras_module.proofs.CallKeyOrder.{call_key_cmp_total, call_key_cmp-IsAntisymmetric}
use Rattle.admission.specs.Calls.{open_calls_of}
use Rattle.keyed.proofs.Entries.{key_of, value_of, entries_again}
use Rattle.admission.proofs.call_list.rising.Goals as goal

pub returns : goal.returns
returns c =
    let es = c.args.calls.now.entries in
    let up : IsSortedByKey key_of call_key_cmp c.sort_unstable_by_key.new.self.items =
    c.sort_unstable_by_key.ensures.sorted key_of
    (always_returns_same _ (λ a r. r ≡ key_of a.0.now) _ (λ a r f' called. search rules)) in
    let moved : IsPermutation es c.sort_unstable_by_key.new.self.items =
    rw c.in_ok-copies.ensures at c.sort_unstable_by_key.ensures.permutation in
    let listed = sorted_rows call_key_cmp_total call_key_cmp-IsAntisymmetric key_of value_of es
    c.sort_unstable_by_key.new.self.items c.requires moved up in
    sym (entries_again c.sort_unstable_by_key.new.self.items)
    ∙ (listed ∙ ap (λ l. fin.entries (open_calls_of l)) (entries_again es))
