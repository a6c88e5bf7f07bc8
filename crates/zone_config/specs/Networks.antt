-- Networks of IPv4 addresses, and the pools that serve them.
use Rattle.std.specs.Prelude.{ℕ, ◌-◌, ◌/◌, ◌^◌, ◌==◌, Bool, true, false, List, length, slice_get}
use Rattle.std.specs.Prelude.{Option, None, Some}
use Rattle.std.specs.Prelude.{nat_eq, nat_lt, is_none}
use Rattle.std.specs.Cmp.Lexicographic.{pointwise}
use Rattle.std.specs.Ordering.{on, eq_of_both}
use Rattle.std.specs.Int.{from_be_bytes, w32}
use Rattle.std.specs.List.{position}
use Rattle.std.specs.Option.{unwrap_or}
use Rattle.zone_config.specs.declared.network.Network.{Network}

-- networks are compared by their address and their bits
abbrev pub same_network : Network → Network → Bool
same_network =
    eq_of_both (on (λ n. n.ip) (pointwise nat_eq)) (on (λ n. n.bits) ◌==◌)

-- this many bits of an address, from its front
abbrev pub front_bits : ℕ → List ℕ → ℕ
front_bits bits ip = from_be_bytes w32 ip / 2 ^ (32 - bits)

-- the address begins with the bits of the network
abbrev pub holds : Network → List ℕ → Bool
holds network ip = front_bits network.bits network.ip == front_bits network.bits ip

-- a pool without a network serves every address
abbrev pub serves : Option Network → List ℕ → Bool
serves None ip = true
serves (Some network) ip = holds network ip

-- the first pool that serves the address
abbrev pub pool_of : List (Option Network) → List ℕ → ℕ
pool_of networks ip = unwrap_or (position (λ network. serves network ip) networks) 0

-- there is a pool, and it has no network
abbrev pub is_default : Option (Option Network) → Bool
is_default None = false
is_default (Some network) = is_none network

-- there is a pool, and the last one has no network
abbrev pub has_default : List (Option Network) → Bool
has_default networks = is_default (slice_get networks (length networks - 1))

-- a network has more bits than an IPv4 address, which has 32
abbrev pub is_too_long : Option Network → Bool
is_too_long None = false
is_too_long (Some network) = nat_lt 32 network.bits
