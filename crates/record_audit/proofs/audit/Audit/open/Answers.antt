use Rattle.std.proofs.Common.{◌≡◌, ◌∙◌, ap, rules, subst}
use Rattle.script.specs.Said.{Said}
use Rattle.record_audit.specs.Records.{Opens, fault_of_head, script_in}
use Rattle.record_audit.proofs.Ending.{not_opened, why_not_opened}
use Rattle.record_audit.proofs.audit.Audit.open.Goals as goal

pub returns-in-Err-clause-err : goal.returns-in-Err-clause-err
returns-in-Err-clause-err c = λ other new opens.
    (let said : c.args.self.now.said ≡ c.replace-draft.result = search rules in
    not_opened (script_in c.replace-draft.result) c.in-Err.fault c.in-Err.ensures
    (λ is. other (c.fault_of.ensures.memory is)) c.args.event new
    (subst (λ (s : Said). Opens (script_in s) c.args.event new) said opens))

pub returns-in-Err-clause-why : goal.returns-in-Err-clause-why
returns-in-Err-clause-why c = λ other.
    (let said : c.replace-draft.result ≡ c.args.self.now.said = search rules in
    c.fault_of.ensures.told (λ is. other (c.fault_of.ensures.memory is))
    ∙ why_not_opened (script_in c.replace-draft.result) c.in-Err.fault c.in-Err.ensures
    (λ is. other (c.fault_of.ensures.memory is))
    ∙ ap (λ (s : Said). fault_of_head (script_in s)) said)
