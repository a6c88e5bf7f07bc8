-- The order of datagrams as keys: it is total, and only equal keys tie.
use Rattle.std.proofs.Common.{◌≡◌, ℕ, List, ap}
use Rattle.std.specs.Bool.{Decides}
use Rattle.std.specs.Cmp.{IsTotalOrder}
use Rattle.std.specs.Ordering.{nat_cmp, ordering_then}
use Rattle.std.specs.Cmp.Lexicographic.{slice_cmp}
use Rattle.std.specs.FinMap.{IsAntisymmetric}
use Rattle.std.proofs.lemmas.Cmp.{nat_cmp_total, nat_list_cmp_total, on_total, then_total}
use Rattle.std.proofs.lemmas.Map.Lookups.{exact_pairs, exact_unsigned, exact_bytes}
use Rattle.std.proofs.lemmas.Bool.{and_parts, and_from}
use Rattle.ras_module.specs.Same.{address_decides, texts_decide}
use Rattle.kept_replies.specs.declared.key.KeptKey.{KeptKey}
use Rattle.kept_replies.specs.Keys.{same_key, key_cmp, ip_of, port_of, bytes_of}

pub key_cmp_total : IsTotalOrder key_cmp
key_cmp_total =
    then_total (on_total ip_of nat_list_cmp_total)
    (then_total (on_total port_of nat_cmp_total) (on_total bytes_of nat_list_cmp_total))

one_key : (a b : KeptKey) → ip_of a ≡ ip_of b → port_of a ≡ port_of b → bytes_of a ≡ bytes_of b
    → a ≡ b
one_key a b ips ports bytes =
    λ i. record { source = record { ip = ips i; port = ports i }; bytes = bytes i }

pub key_cmp-IsAntisymmetric : IsAntisymmetric key_cmp
key_cmp-IsAntisymmetric a b h =
    let rest = exact_pairs nat_cmp (slice_cmp nat_cmp) exact_unsigned exact_bytes in
    let all = exact_pairs (slice_cmp nat_cmp)
    (λ (x y : ℕ × List ℕ). ordering_then (nat_cmp x.0 y.0) (slice_cmp nat_cmp x.1 y.1))
    exact_bytes rest (ip_of a, (port_of a, bytes_of a)) (ip_of b, (port_of b, bytes_of b)) h in
    one_key a b (ap (λ p. p.0) all) (ap (λ p. p.1.0) all) (ap (λ p. p.1.1) all)

pub key_decides : (a b : KeptKey) → Decides (same_key a b) (a ≡ b)
key_decides a b = (
  λ h.
      (let both = and_parts _ _ h in
      let sources = (address_decides a.source b.source).0 both.0 in
      let bytes = (texts_decide a.bytes b.bytes).0 both.1 in
      λ i. record { source = sources i; bytes = bytes i }),
  λ e. and_from _ _ ((address_decides a.source b.source).1 (ap (λ k. k.source) e))
      ((texts_decide a.bytes b.bytes).1 (ap (λ k. k.bytes) e)),
)
