-- The numbers of the faults.
use Rattle.std.specs.Prelude.{ℕ}
use Rattle.script.specs.declared.fault.ScriptFault.{ScriptFault}
use Rattle.script.specs.declared.fault.ScriptFault.TheVariants as script
use Rattle.script.specs.declared.fault.RunFault.{RunFault}
use Rattle.script.specs.declared.fault.RunFault.TheVariants as run

abbrev pub script_fault_number : ScriptFault → ℕ
script_fault_number script.TooLong = 1
script_fault_number (script.BadLine line) = 2
script_fault_number script.NoZone = 3
script_fault_number script.NoDefaultPool = 4
script_fault_number script.Stream = 5
script_fault_number script.Memory = 6

abbrev pub run_fault_number : RunFault → ℕ
run_fault_number (run.Memory step) = 1
run_fault_number (run.Closed step) = 2
run_fault_number run.Stream = 3
run_fault_number run.WrongPools = 4
