-- The numbers of the faults.
use Rattle.std.specs.Prelude.{ℕ}
use Rattle.zone_lock.specs.declared.lock.OpenFault.{OpenFault}
use Rattle.zone_lock.specs.declared.lock.OpenFault.TheVariants as fault
use Rattle.zone_lock.specs.declared.cutting.CutFault.{CutFault}
use Rattle.zone_lock.specs.declared.cutting.CutFault.TheVariants as cut

abbrev pub open_fault_number : OpenFault → ℕ
open_fault_number fault.BadSeats = 1
open_fault_number fault.Memory = 2

abbrev pub cut_fault_number : CutFault → ℕ
cut_fault_number cut.NoBase = 1
cut_fault_number cut.Memory = 2
