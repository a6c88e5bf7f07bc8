use Rattle.std.proofs.Common.{◌≡◌, ◌||◌, is_some, length, nat_lt, rules}
use Rattle.record_audit.specs.Records.{steps_of}
use Rattle.record_audit.proofs.Whole.{audited_input}
use Rattle.record_audit.proofs.whole_record.audit_record.Goals as goal

pub returns-in-Ok-read_input-clause-audit : goal.returns-in-Ok-read_input-clause-audit
returns-in-Ok-read_input-clause-audit g c =
    let reading = c.read_input.new.audit in
    let steps : c.audited.result.steps ≡ steps_of reading.standing.zone = search rules in
    let lines : c.audited.result.lines ≡ reading.lines = search rules in
    let cut : c.audited.result.is_cut_off
    ≡ (nat_lt 0 (length reading.begun) || is_some reading.standing.awaited) = search rules in
    audited_input c.args.input.now.left reading c.audited.result
    c.in-Ok-read_input.ensures.follows c.in-Ok-read_input.ensures.few steps lines cut
