-- What an end of a socket answers, by what the system's calls gave.
use Rattle.std.specs.Prelude.{ℕ, ◌≡◌, ◌-◌, Bool, true, false, if◌then◌else◌}
use Rattle.std.specs.Prelude.{Option, Some, None, Result, Ok, Err}
use Rattle.std.specs.declared.io.Error.{Error}
use Rattle.std.specs.declared.io.ErrorKind.{ErrorKind}
use Rattle.std.specs.declared.io.ErrorKind.TheVariants.{WouldBlock, TimedOut, Interrupted}
use Rattle.std.specs.declared.net.SocketAddr.{SocketAddr}
use Rattle.std.specs.declared.net.SocketAddr.TheVariants.{V4, V6}
use Rattle.std.specs.IoError.{error_kind}
use Rattle.std.specs.Net.Addr.{ipv4_octets}
use Rattle.std.specs.Net.Socket.{v4_ip, v4_port}
use Rattle.ras_module.specs.declared.address.Address.{Address}
use Rattle.udp_server.specs.declared.datagrams.Received.{Received}
use Rattle.udp_server.specs.declared.datagrams.Received.TheVariants.{Datagram, Quiet, Stopped}
use Rattle.udp_server.specs.Ends.{ReceiveResult}

-- a receive failed only because nothing came, or because the program was stopped and goes on
abbrev pub is_quiet : ErrorKind → Bool
is_quiet WouldBlock = true
is_quiet TimedOut = true
is_quiet Interrupted = true
is_quiet _ = false

-- an address of the system's, as RAS messages have it; none if it isn't one of IPv4
abbrev pub address_of : SocketAddr → Option Address
address_of (V4 a) = Some (record { ip = ipv4_octets (v4_ip a); port = v4_port a })
address_of (V6 a) = None

-- a datagram of this many octets from this address; nothing, if RAS messages don't have the address
abbrev pub received_from : Option Address → ℕ → Received
received_from (Some source) octets = Datagram source octets
received_from None octets = Quiet

-- what a receive gave, by what the system's call gave; none if it failed
abbrev pub received_by : Result (ℕ × SocketAddr) Error → Option Received
received_by (Ok came) = Some (received_from (address_of came.1) came.0)
received_by (Err error) = if is_quiet (error_kind error) then Some Quiet else None

-- how many receives are left after one more, if their number is limited
abbrev pub one_fewer : Option ℕ → Option ℕ
one_fewer None = None
one_fewer (Some left) = Some (left - 1)

-- a receive gave that the end has stopped
abbrev pub is_stopped : ReceiveResult → Bool
is_stopped (Ok Stopped) = true
is_stopped given = false

-- how many receives are left after one that gave this: it is counted, unless the end has stopped
abbrev pub left_after : ReceiveResult → Option ℕ → Option ℕ
left_after given left = if is_stopped given then left else one_fewer left

-- What a receive that gave this does to the receives that are left: it is counted, and if none was
-- left, the end has stopped.
pub record IsReceiveCounted (given : ReceiveResult) (left left_then : Option ℕ)
    : Type 0 where
  pub counted : left_then ≡ left_after given left
  pub none_left : left ≡ Some 0 → given ≡ Ok Stopped
