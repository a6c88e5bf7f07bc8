-- The numbers of the faults.
use Rattle.std.specs.Prelude.{ℕ}
use Rattle.per_bits.specs.declared.fault.ReadFault.{ReadFault}
use Rattle.per_bits.specs.declared.fault.ReadFault.TheVariants.{Truncated, BadLength, Fragmented}
use Rattle.per_bits.specs.declared.fault.ReadFault.TheVariants.{TooMany}

abbrev pub read_fault_number : ReadFault → ℕ
read_fault_number Truncated = 1
read_fault_number BadLength = 2
read_fault_number Fragmented = 3
read_fault_number TooMany = 4
