-- The numbers of the faults.
use Rattle.std.specs.Prelude.{ℕ}
use Rattle.ras_core.specs.declared.fault.NewFault.{NewFault}
use Rattle.ras_core.specs.declared.fault.NewFault.TheVariants as new
use Rattle.ras_core.specs.declared.fault.StepFault.{StepFault}
use Rattle.ras_core.specs.declared.fault.StepFault.TheVariants as step

abbrev pub new_fault_number : NewFault → ℕ
new_fault_number new.WrongPools = 1
new_fault_number new.Memory = 2

abbrev pub step_fault_number : StepFault → ℕ
step_fault_number step.Memory = 1
step_fault_number step.Closed = 2
