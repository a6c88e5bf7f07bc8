-- Datagrams as keys, compared and in order.
use Rattle.std.specs.Prelude.{ℕ, List, Bool, ◌&&◌, nat_eq}
use Rattle.std.specs.declared.cmp.Ordering.{Ordering}
use Rattle.std.specs.Ordering.{nat_cmp, ordering_then}
use Rattle.std.specs.Cmp.Lexicographic.{pointwise, slice_cmp}
use Rattle.ras_module.specs.Addresses.{same_address}
use Rattle.kept_replies.specs.declared.key.KeptKey.{KeptKey}

-- keys are compared by the address and the octets
abbrev pub same_key : KeptKey → KeptKey → Bool
same_key a b = same_address a.source b.source && pointwise nat_eq a.bytes b.bytes

abbrev pub ip_of : KeptKey → List ℕ
ip_of key = key.source.ip

abbrev pub port_of : KeptKey → ℕ
port_of key = key.source.port

abbrev pub bytes_of : KeptKey → List ℕ
bytes_of key = key.bytes

-- an order in which datagrams are keys of a finite map: by the address that they came from, then
-- by its port, then octet by octet
abbrev pub key_cmp : KeptKey → KeptKey → Ordering
key_cmp a b =
    ordering_then (slice_cmp nat_cmp (ip_of a) (ip_of b))
    (ordering_then (nat_cmp (port_of a) (port_of b)) (slice_cmp nat_cmp (bytes_of a) (bytes_of b)))
