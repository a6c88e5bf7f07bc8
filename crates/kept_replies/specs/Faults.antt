-- The numbers of the faults.
use Rattle.std.specs.Prelude.{ℕ}
use Rattle.kept_replies.specs.declared.fault.ReserveFault.{ReserveFault}
use Rattle.kept_replies.specs.declared.fault.ReserveFault.TheVariants.{Busy, Memory}

abbrev pub reserve_fault_number : ReserveFault → ℕ
reserve_fault_number Busy = 1
reserve_fault_number Memory = 2
