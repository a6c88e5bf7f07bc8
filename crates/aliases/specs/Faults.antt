-- The numbers of the faults.
use Rattle.std.specs.Prelude.{ℕ}
use Rattle.aliases.specs.declared.fault.SetFault.{SetFault}
use Rattle.aliases.specs.declared.fault.SetFault.TheVariants.{Duplicate, Memory}

abbrev pub set_fault_number : SetFault → ℕ
set_fault_number Duplicate = 1
set_fault_number Memory = 2
