-- Why serving ends without a report, and the exit status of each fault.
use Rattle.std.specs.Prelude.{ℕ, ◌≡◌, ◌⊎◌, Bool, true, false, IsErr, Result}
use Rattle.std.specs.declared.io.ErrorKind.{ErrorKind}
use Rattle.std.specs.declared.io.ErrorKind.TheVariants.{OutOfMemory}
use Rattle.recording.specs.declared.recorded_zone.ZoneFault.{ZoneFault}
use Rattle.recording.specs.Zones.{ZoneParts}
use Rattle.commands.specs.Inputs.{input_status}
use Rattle.surroundings.specs.declared.serving_fault.RunningFault.{RunningFault}
use Rattle.surroundings.specs.declared.serving_fault.RunningFault.TheVariants.{Bind, BindPage}
use Rattle.surroundings.specs.declared.serving_fault.RunningFault.TheVariants.{Memory, Record}
use Rattle.surroundings.specs.declared.serving_fault.RunningFault.TheVariants.{NotFinished}
use Rattle.surroundings.specs.declared.serving_fault.RunningFault.TheVariants.{Stream, WrongPools}
use Rattle.surroundings.specs.declared.serving_fault.ServingFault.{ServingFault}
use Rattle.surroundings.specs.declared.serving_fault.ServingFault.TheVariants.{Running, Settings}

-- 1: the zone couldn't be made, or didn't come back; 3: no memory; 4: an address wasn't bound, a
-- record wasn't begun, or a stream failed
abbrev pub running_status : RunningFault → ℕ
running_status Bind = 4
running_status BindPage = 4
running_status Record = 4
running_status Memory = 3
running_status WrongPools = 1
running_status NotFinished = 1
running_status Stream = 4

abbrev pub serve_status : ServingFault → ℕ
serve_status (Settings fault) = input_status fault
serve_status (Running fault) = running_status fault

-- the fault if the first lines of a record aren't written
abbrev pub begin_fault : ErrorKind → RunningFault
begin_fault OutOfMemory = Memory
begin_fault _ = Record

-- a record isn't begun
abbrev pub IsBeginFault : RunningFault → Type 0
IsBeginFault fault = (fault ≡ Record) ⊎ (fault ≡ Memory)

-- no record is planned: no lines describe the zone, or there is no memory for its settings
abbrev pub IsPlanFault : Result ZoneParts ZoneFault → RunningFault → Type 0
IsPlanFault zone fault = ((fault ≡ Record) × IsErr zone) ⊎ (fault ≡ Memory)

-- no zone is made over pools that are those of its settings, or aren't
abbrev pub zone_fault : Bool → RunningFault
zone_fault true = Memory
zone_fault false = WrongPools

-- no zone is made of settings
abbrev pub IsZoneFault : RunningFault → Type 0
IsZoneFault fault = (fault ≡ WrongPools) ⊎ (fault ≡ Memory)
