-- What serving returns and writes.
use Rattle.std.specs.Prelude.{ℕ, ◌≡◌, ◌⊎◌, Bool, List, Result, Ok, Err, IsTrue}
use Rattle.udp_server.specs.declared.report.ServeFault.{ServeFault}
use Rattle.udp_server.specs.declared.report.ServeFault.TheVariants as server
use Rattle.script.specs.Streams.{OutputState}
use Rattle.commands.specs.Inputs.{GivesSettings, IsInputRead}
use Rattle.surroundings.specs.declared.serving_fault.RunningFault.{RunningFault}
use Rattle.surroundings.specs.declared.serving_fault.RunningFault.TheVariants.{Bind, BindPage}
use Rattle.surroundings.specs.declared.serving_fault.RunningFault.TheVariants.{Memory, NotFinished}
use Rattle.surroundings.specs.declared.serving_fault.RunningFault.TheVariants.{Record, Stream}
use Rattle.surroundings.specs.declared.serving_fault.RunningFault.TheVariants.{WrongPools}
use Rattle.surroundings.specs.declared.serving_fault.ServingFault.{ServingFault}
use Rattle.surroundings.specs.declared.serving_fault.ServingFault.TheVariants as serving

-- why there is no report, if the server ended with this fault: the counts of what it is handed fit,
-- so that WrongCounts would be a fault of the program itself, as NotFinished is
abbrev pub running_fault_of : ServeFault → RunningFault
running_fault_of server.WrongCounts = NotFinished
running_fault_of server.Memory = Memory
running_fault_of server.NotFinished = NotFinished

-- a server that was begun leaves no report
abbrev pub IsServerFault : RunningFault → Type 0
IsServerFault fault = (fault ≡ Memory) ⊎ (fault ≡ NotFinished)

-- nor does one with a record or without, whose addresses are bound before
abbrev pub IsAttendedFault : Bool → RunningFault → Type 0
IsAttendedFault has_record fault =
    ((fault ≡ Record) × IsTrue has_record) ⊎ IsServerFault fault

-- nor does one whose page has to be bound, if it has one
abbrev pub IsPagedFault : Bool → Bool → RunningFault → Type 0
IsPagedFault has_page has_record fault =
    ((fault ≡ BindPage) × IsTrue has_page) ⊎ IsAttendedFault has_record fault

-- nor does one whose zone has to be made, and its address to be bound
abbrev pub IsServeFault : Bool → Bool → RunningFault → Type 0
IsServeFault has_page has_record fault =
    (fault ≡ WrongPools) ⊎ (fault ≡ Bind) ⊎ IsPagedFault has_page has_record fault

-- and its report isn't printed
abbrev pub IsPrintFault : Bool → Bool → RunningFault → Type 0
IsPrintFault has_page has_record fault =
    (fault ≡ Stream) ⊎ IsServeFault has_page has_record fault

-- only a zone of settings that the octets give is served; otherwise the fault is that of
-- reading them
abbrev pub AreServed : {A : Type 0} → List ℕ → Result A ServingFault → Type 0
AreServed octets (Ok done) = GivesSettings octets
AreServed octets (Err (serving.Settings fault)) = IsInputRead octets (Err fault)
AreServed octets (Err (serving.Running fault)) = GivesSettings octets

-- the report was flushed; if there is none, nothing was written
abbrev pub IsReportWritten : {A : Type 0} → OutputState → OutputState → Result A RunningFault
    → Type 0
IsReportWritten old new (Ok done) = IsTrue new.flushed
IsReportWritten old new (Err Stream) = Unit {0}
IsReportWritten old new (Err fault) = new ≡ old

-- so it is of the whole, and of settings that are refused nothing is written
abbrev pub IsServiceWritten : {A : Type 0} → OutputState → OutputState → Result A ServingFault
    → Type 0
IsServiceWritten old new (Ok done) = IsTrue new.flushed
IsServiceWritten old new (Err (serving.Settings fault)) = new ≡ old
IsServiceWritten {A} old new (Err (serving.Running fault)) =
    IsReportWritten {A = A} old new (Err fault)
