-- The order of the keys of calls: it is total, and only equal keys tie.
use Rattle.std.proofs.Common.{ℕ, List}
use Rattle.std.specs.Cmp.{IsTotalOrder}
use Rattle.std.specs.FinMap.{IsAntisymmetric}
use Rattle.std.proofs.lemmas.Cmp.{nat_list_cmp_total, on_total}
use Rattle.std.proofs.lemmas.Map.Lookups.{exact_bytes}
use Rattle.ras_module.specs.declared.call_key.CallKey.{CallKey}
use Rattle.ras_module.specs.CallKeys.{call_key_cmp}

abbrev octets_of : CallKey → List ℕ
octets_of key = key.octets

pub call_key_cmp_total : IsTotalOrder call_key_cmp
call_key_cmp_total = on_total octets_of nat_list_cmp_total

pub call_key_cmp-IsAntisymmetric : IsAntisymmetric call_key_cmp
call_key_cmp-IsAntisymmetric a b h =
    let octets = exact_bytes a.octets b.octets h in
    λ i. record { octets = octets i }
