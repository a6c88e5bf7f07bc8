-- The numbers of the faults.
use Rattle.std.specs.Prelude.{ℕ}
use Rattle.registrations.specs.declared.fault.AddFault.{AddFault}
use Rattle.registrations.specs.declared.fault.AddFault.TheVariants.{Full, Memory}

abbrev pub add_fault_number : AddFault → ℕ
add_fault_number Full = 1
add_fault_number Memory = 2
