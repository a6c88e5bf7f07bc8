-- The numbers of the faults.
use Rattle.std.specs.Prelude.{ℕ}
use Rattle.history.specs.declared.fault.WorldFault.{WorldFault}
use Rattle.history.specs.declared.fault.WorldFault.TheVariants as fault

abbrev pub world_fault_number : WorldFault → ℕ
world_fault_number fault.Memory = 1
world_fault_number fault.Closed = 2
world_fault_number fault.NoWorker = 3
world_fault_number fault.NotIdle = 4
world_fault_number fault.NoEvent = 5
world_fault_number fault.NoOutcome = 6
world_fault_number fault.RingEmpty = 7
world_fault_number fault.OutOfRange = 8
