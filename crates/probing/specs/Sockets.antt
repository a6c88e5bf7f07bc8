-- Addresses as the system has them, and how much time has passed.
use Rattle.std.specs.Prelude.{ℕ, ◌-◌, ◌/◌, ◌^◌, min, Option, Some, None}
use Rattle.std.specs.declared.net.SocketAddr.{SocketAddr}
use Rattle.std.specs.declared.net.SocketAddr.TheVariants.{V4, V6}
use Rattle.std.specs.declared.time.Instant.{Instant}
use Rattle.std.specs.Net.Addr.{ipv4_octets}
use Rattle.std.specs.Net.Socket.{v4_ip, v4_port}
use Rattle.std.specs.Time.{instant_nanos}
use Rattle.ras_module.specs.declared.address.Address.{Address}

-- an address of the system's; none if it isn't one of IPv4
abbrev pub address_of : SocketAddr → Option Address
address_of (V4 a) = Some (record { ip = ipv4_octets (v4_ip a); port = v4_port a })
address_of (V6 a) = None

-- the whole microseconds of these nanoseconds, or the greatest u64 if they are more
abbrev pub microseconds_of : ℕ → ℕ
microseconds_of nanoseconds = min (nanoseconds / 1000) (2 ^ 64 - 1)

-- the microseconds from a moment to a later one; 0 if the clock couldn't be read at one of them
abbrev pub microseconds_between : Option Instant → Option Instant → ℕ
microseconds_between (Some start) (Some now) =
    microseconds_of (instant_nanos now - instant_nanos start)
microseconds_between start now = 0
