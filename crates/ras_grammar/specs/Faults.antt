-- The faults of messages: their numbers, and the faults of single bits among them.
use Rattle.std.specs.Prelude.{ℕ, ◌≡◌, ◌⊎◌, List, take, Result, Ok, Err}
use Rattle.std.specs.Borrow.{Bor}
use Rattle.per_bits.specs.declared.fault.ReadFault.{ReadFault as BitFault}
use Rattle.per_bits.specs.declared.fault.ReadFault.TheVariants as bit
use Rattle.ras_grammar.specs.declared.fault.ReadFault.{ReadFault}
use Rattle.ras_grammar.specs.declared.fault.ReadFault.TheVariants.{Truncated, BadLength, Fragmented}
use Rattle.ras_grammar.specs.declared.fault.ReadFault.TheVariants.{TooMany, BadChoice}
use Rattle.ras_grammar.specs.declared.fault.ReadFault.TheVariants.{BadCharacter, Memory}

-- the number of a fault
abbrev pub read_fault_number : ReadFault → ℕ
read_fault_number Truncated = 1
read_fault_number BadLength = 2
read_fault_number Fragmented = 3
read_fault_number TooMany = 4
read_fault_number BadChoice = 5
read_fault_number BadCharacter = 6
read_fault_number Memory = 7

-- a fault of single bits, as one of a message
abbrev pub fault_of : BitFault → ReadFault
fault_of bit.Truncated = Truncated
fault_of bit.BadLength = BadLength
fault_of bit.Fragmented = Fragmented
fault_of bit.TooMany = TooMany

-- the same result, with the fault among those of messages
abbrev pub lifted : {A : Type 0} → Result A BitFault → Result A ReadFault
lifted (Ok x) = Ok x
lifted (Err fault) = Err (fault_of fault)

-- the same of an index: one above the last names no alternative
abbrev pub index_fault_of : BitFault → ReadFault
index_fault_of bit.BadLength = BadChoice
index_fault_of bit.Truncated = Truncated
index_fault_of bit.Fragmented = Fragmented
index_fault_of bit.TooMany = TooMany

abbrev pub lifted_index : {A : Type 0} → Result A BitFault → Result A ReadFault
lifted_index (Ok x) = Ok x
lifted_index (Err fault) = Err (index_fault_of fault)

-- the octets behind a reference
abbrev pub of_octets : Result (Bor (List ℕ)) ReadFault → Result (List ℕ) ReadFault
of_octets (Ok octets) = Ok octets.now
of_octets (Err fault) = Err fault

-- this many characters at the front of an array
abbrev pub front_of : {A : Type 0} → ℕ → Result (List A) ReadFault → Result (List A) ReadFault
front_of count (Ok characters) = Ok (take count characters)
front_of count (Err fault) = Err fault

-- The result is this one, unless memory was refused.
abbrev pub IsUnlessMemory : {A : Type 0} → Result A ReadFault → Result A ReadFault → Type 0
IsUnlessMemory expected result = (result ≡ Err Memory) ⊎ (result ≡ expected)
