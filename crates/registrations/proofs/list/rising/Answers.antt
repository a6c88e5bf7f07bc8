use Rattle.std.proofs.Common.{rules, ◌≡◌}
use Rattle.std.specs.Ordering.{nat_cmp}
use Rattle.std.specs.Cmp.Lexicographic.{slice_cmp}
use Rattle.std.specs.List.Sorted.{IsSortedByKey}
use Rattle.std.proofs.lemmas.Fn.{always_returns_same}
use Rattle.std.proofs.lemmas.Cmp.{nat_list_cmp_total}
use Rattle.std.proofs.lemmas.Map.Lookups.{exact_bytes}
use Rattle.keyed.proofs.Lists.{sorted_rows}
use Rattle.registrations.specs.Registry.{identifier_of}
use Rattle.registrations.proofs.list.rising.Goals as goal

pub returns : goal.returns
returns c =
    let up : IsSortedByKey identifier_of (slice_cmp nat_cmp) c.sort_unstable_by_key.new.self.items =
    c.sort_unstable_by_key.ensures.sorted identifier_of (always_returns_same _
    (λ a r. r ≡ identifier_of a.0.now) _ (λ a r f' called. search rules)) in
    sorted_rows nat_list_cmp_total exact_bytes identifier_of (λ r. r) c.args.rows.items
    c.sort_unstable_by_key.new.self.items c.requires c.sort_unstable_by_key.ensures.permutation up
