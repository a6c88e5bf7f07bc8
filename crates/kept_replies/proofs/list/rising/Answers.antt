use Rattle.std.proofs.Common.{◌≡◌, rules}
use Rattle.std.specs.FinMap.{nat_cmp-IsAntisymmetric}
use Rattle.std.specs.List.Sorted.{IsPermutation, IsSortedByKey}
use Rattle.std.specs.Ordering.{nat_cmp}
use Rattle.std.proofs.lemmas.Cmp.{nat_cmp_total}
use Rattle.std.proofs.lemmas.Fn.{always_returns_same}
use Rattle.keyed.proofs.Lists.{sorted_rows}
use Rattle.kept_replies.specs.Kept.{birth_of, itself}
use Rattle.kept_replies.proofs.list.rising.Goals as goal

pub returns : goal.returns
returns c =
    let rows = c.args.rows.now.entries in
    let moved = c.sort_unstable_by_key.new.self.items in
    let up : IsSortedByKey birth_of nat_cmp moved =
    c.sort_unstable_by_key.ensures.sorted birth_of
    (always_returns_same _ (λ a r. r ≡ birth_of a.0.now) _ (λ a r f' called. search rules)) in
    let same : IsPermutation rows moved =
    rw c.in_ok-copies.ensures at c.sort_unstable_by_key.ensures.permutation in
    sorted_rows nat_cmp_total nat_cmp-IsAntisymmetric birth_of itself rows moved c.requires same up
