-- What an audit of a record returns and writes, and the exit status of each of its faults.
use Rattle.std.specs.Prelude.{ℕ, ◌≡◌, ◌==◌, ◌++◌, List, [], Bool, true, false, Option, IfSome}
use Rattle.std.specs.Prelude.{Result, Ok, Err, IsTrue, codes, if◌then◌else◌}
use Rattle.std.specs.Fmt.{decimal}
use Rattle.std.specs.Io.KnownBytes.{Appends}
use Rattle.script.specs.Streams.{OutputState}
use Rattle.record_audit.specs.Audits.{IsAuditOf}
use Rattle.record_audit.specs.declared.fault.AuditFault.TheVariants as audit
use Rattle.record_audit.specs.declared.fault.LineFault.TheVariants.{Memory}
use Rattle.record_audit.specs.declared.whole_record.Audited.{Audited}
use Rattle.commands.specs.declared.auditing_input.RecordFault.{RecordFault}
use Rattle.commands.specs.declared.auditing_input.RecordFault.TheVariants.{Output}
use Rattle.commands.specs.declared.auditing_input.RecordFault.TheVariants.{Audit as OfAudit}

-- 1: a line isn't right, or the record is too long; 3: no memory; 4: a stream failed
abbrev pub record_status : RecordFault → ℕ
record_status (OfAudit (audit.Line number Memory)) = 3
record_status (OfAudit (audit.Line number fault)) = 1
record_status (OfAudit audit.TooLong) = 1
record_status (OfAudit audit.Stream) = 4
record_status Output = 4

-- how many steps there are
abbrev pub steps_line : ℕ → List ℕ
steps_line steps =
    if steps == 1
    then codes "1 step is a run of the zone\n"
    else decimal steps ++ codes " steps are a run of the zone\n"

-- behind which line a record is cut off, if it is
abbrev pub cut_line : Bool → ℕ → List ℕ
cut_line false lines = []
cut_line true lines = codes "the record is cut off behind line " ++ decimal lines ++ codes "\n"

-- what is written of a record that passes
abbrev pub audited_text : Audited → List ℕ
audited_text audited = steps_line audited.steps ++ cut_line audited.is_cut_off audited.lines

-- The text of what the audit of the octets came to was written, and flushed. Or it came to a fault,
-- and nothing was written. Or a write failed.
abbrev pub TellsAudit : Option (List ℕ) → OutputState → OutputState → Result Unit RecordFault
    → Type 0
TellsAudit left old new (Ok done) =
    (audited : Audited) × IfSome left (λ octets. IsAuditOf octets (Ok audited))
    × Appends old.contents new.contents (audited_text audited) × IsTrue new.flushed
TellsAudit left old new (Err (OfAudit fault)) =
    IfSome left (λ octets. IsAuditOf octets (Err fault)) × (new ≡ old)
TellsAudit left old new (Err Output) = Unit {0}
