-- Why an address isn't bound.
use Rattle.std.specs.Prelude.{ℕ, List, codes}
use Rattle.std.specs.declared.io.ErrorKind.{ErrorKind}
use Rattle.std.specs.declared.io.ErrorKind.TheVariants.{AddrInUse, AddrNotAvailable}
use Rattle.std.specs.declared.io.ErrorKind.TheVariants.{PermissionDenied}
use Rattle.udp_socket.specs.declared.bound_socket.BindFault.{BindFault}
use Rattle.udp_socket.specs.declared.bound_socket.BindFault.TheVariants.{InUse, NotHere}
use Rattle.udp_socket.specs.declared.bound_socket.BindFault.TheVariants.{NotPermitted, Other}

-- by the system's error
abbrev pub fault_of : ErrorKind → BindFault
fault_of AddrInUse = InUse
fault_of AddrNotAvailable = NotHere
fault_of PermissionDenied = NotPermitted
fault_of _ = Other

-- as a person is told it
abbrev pub cause_text : BindFault → List ℕ
cause_text InUse = codes "another program uses this address"
cause_text NotHere = codes "this machine has no such address"
cause_text NotPermitted = codes "not permitted"
cause_text Other = codes "the system refuses it"
