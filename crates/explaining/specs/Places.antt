-- Where a fault shows.
use Rattle.std.specs.Prelude.{ℕ, zero, suc, ◌+◌, List, length, take, Option, Result, Ok, Err}
use Rattle.std.specs.Prelude.{nat_eq, if◌then◌else◌}
use Rattle.ras_module.specs.declared.request.Request.{Request}
use Rattle.ras_grammar.specs.declared.fault.ReadFault.{ReadFault}
use Rattle.ras_grammar.specs.Faults.{read_fault_number}
use Rattle.ras_reading.specs.Messages.{message_reading}

-- the number of the fault of a reading; 0 if it has none
abbrev pub fault_number_of : Result (Option Request) ReadFault → ℕ
fault_number_of (Ok request) = 0
fault_number_of (Err fault) = read_fault_number fault

-- from this count of octets at the front on, the first with this fault; at most these are added
abbrev pub place_from : List ℕ → ℕ → ℕ → ℕ → ℕ
place_from octets number count zero = count
place_from octets number count (suc more) =
    if nat_eq (fault_number_of (message_reading (take count octets))) number then count
    else place_from octets number (count + 1) more

-- the fewest octets at the front that have this fault, for octets that have it
unfoldable pub place_of : List ℕ → ReadFault → ℕ
place_of octets fault = place_from octets (read_fault_number fault) 0 (length octets)
