-- The order of aliases as keys of a finite map: it is total, and only equal aliases tie.
use Rattle.std.proofs.Common.{◌≡◌, ap, arith}
use Rattle.std.specs.Cmp.{IsTotalOrder}
use Rattle.std.specs.Ordering.{nat_cmp}
use Rattle.std.specs.Cmp.Lexicographic.{slice_cmp}
use Rattle.std.specs.FinMap.{IsAntisymmetric}
use Rattle.std.proofs.lemmas.Cmp.{nat_cmp_total, nat_list_cmp_total, on_total, then_total}
use Rattle.std.proofs.lemmas.Map.Lookups.{exact_pairs, exact_unsigned, exact_bytes}
use Rattle.ras_module.specs.declared.alias.Alias.{Alias}
use Rattle.ras_module.specs.declared.alias.Alias.TheVariants.{Digits, H323Id}
use Rattle.ras_module.specs.Aliases.{alias_cmp, kind_of, characters_of}

pub alias_cmp_total : IsTotalOrder alias_cmp
alias_cmp_total =
    then_total (on_total kind_of nat_cmp_total) (on_total characters_of nat_list_cmp_total)

one_alias : (a b : Alias) → kind_of a ≡ kind_of b → characters_of a ≡ characters_of b → a ≡ b
one_alias (Digits a) (Digits b) k t = ap Digits t
one_alias (H323Id a) (H323Id b) k t = ap H323Id t
one_alias (Digits a) (H323Id b) k t = absurd (omega arith)
one_alias (H323Id a) (Digits b) k t = absurd (omega arith)

pub alias_cmp-IsAntisymmetric : IsAntisymmetric alias_cmp
alias_cmp-IsAntisymmetric a b h =
    let pair = exact_pairs nat_cmp (slice_cmp nat_cmp) exact_unsigned exact_bytes
    (kind_of a, characters_of a) (kind_of b, characters_of b) h in
    one_alias a b (ap (λ p. p.0) pair) (ap (λ p. p.1) pair)
