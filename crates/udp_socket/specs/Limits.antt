-- How often an end of a socket receives.
use Rattle.std.specs.Prelude.{ℕ, Option}
use Rattle.udp_socket.specs.declared.end.SocketEnd.{SocketEnd}

-- how many receives are left, if their number is limited
abbrev pub receives_left : {S : Type 0} → SocketEnd S → Option ℕ
receives_left end = end.receives
