-- The numbers of the faults.
use Rattle.std.specs.Prelude.{ℕ}
use Rattle.admission.specs.declared.fault.CallFault.{CallFault}
use Rattle.admission.specs.declared.fault.CallFault.TheVariants.{Full, TwoLegs, NoCall, NoLeg}
use Rattle.admission.specs.declared.fault.CallFault.TheVariants.{Memory}

abbrev pub call_fault_number : CallFault → ℕ
call_fault_number Full = 1
call_fault_number TwoLegs = 2
call_fault_number NoCall = 3
call_fault_number NoLeg = 4
call_fault_number Memory = 5
