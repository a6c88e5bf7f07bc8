-- What the ends of a server give, and how their failed calls are counted.
use Rattle.std.specs.Prelude.{◌≤◌, ◌+◌, ℕ, List, [], min, suc, take, zero}
use Rattle.std.specs.Prelude.{Result, Ok}
use Rattle.udp_server.specs.declared.datagrams.DeviceFault.{DeviceFault}
use Rattle.udp_server.specs.declared.datagrams.Received.{Received}
use Rattle.udp_server.specs.declared.datagrams.Received.TheVariants.{Datagram, Quiet, Stopped}

-- what a receive gives, and what a send gives
abbrev pub ReceiveResult : Type 0
ReceiveResult = Result Received DeviceFault

abbrev pub SendResult : Type 0
SendResult = Result (Unit {0}) DeviceFault

-- a datagram that was received lies within the buffer
abbrev pub IsWithin : Received → Type 0
IsWithin (Datagram source octets) = octets ≤ 4097
IsWithin Quiet = Unit {0}
IsWithin Stopped = Unit {0}

-- the octets of the datagram that a receive gave, at the front of its buffer; none if it gave no
-- datagram
abbrev pub octets_given : ReceiveResult → List ℕ → List ℕ
octets_given (Ok (Datagram source length)) buffer = take length buffer
octets_given given buffer = []

-- the greatest number that a count has: it stays there
abbrev pub most_count : ℕ
most_count = 18446744073709551615

-- the count after one failed call more
abbrev pub fault_count : ℕ → ℕ
fault_count before = min (before + 1) most_count

-- the count after this many more
abbrev pub count_after : ℕ → ℕ → ℕ
count_after zero before = before
count_after (suc more) before = fault_count (count_after more before)
