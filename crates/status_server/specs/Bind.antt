-- Addresses to be bound, and why one isn't.
use Rattle.std.specs.Prelude.{ℕ, List, Option, Some, None, codes}
use Rattle.std.specs.declared.io.ErrorKind.{ErrorKind}
use Rattle.std.specs.declared.io.ErrorKind.TheVariants.{AddrInUse, AddrNotAvailable}
use Rattle.std.specs.declared.io.ErrorKind.TheVariants.{PermissionDenied}
use Rattle.std.specs.declared.net.SocketAddr.{SocketAddr}
use Rattle.std.specs.declared.net.SocketAddr.TheVariants.{V4, V6}
use Rattle.std.specs.Net.Addr.{ipv4_octets}
use Rattle.std.specs.Net.Socket.{v4_ip, v4_port}
use Rattle.ras_module.specs.declared.address.Address.{Address}
use Rattle.status_server.specs.declared.bound.BindFault.{BindFault}
use Rattle.status_server.specs.declared.bound.BindFault.TheVariants.{InUse, NotHere}
use Rattle.status_server.specs.declared.bound.BindFault.TheVariants.{NotPermitted, Other}

-- an address of the system's; none if it isn't one of IPv4
abbrev pub address_of : SocketAddr → Option Address
address_of (V4 a) = Some (record { ip = ipv4_octets (v4_ip a); port = v4_port a })
address_of (V6 a) = None

-- why an address isn't bound, by the system's error
abbrev pub fault_of : ErrorKind → BindFault
fault_of AddrInUse = InUse
fault_of AddrNotAvailable = NotHere
fault_of PermissionDenied = NotPermitted
fault_of _ = Other

-- the cause, as a person is told it
abbrev pub cause_text : BindFault → List ℕ
cause_text InUse = codes "another program uses this address"
cause_text NotHere = codes "this machine has no such address"
cause_text NotPermitted = codes "not permitted"
cause_text Other = codes "the system refuses it"
