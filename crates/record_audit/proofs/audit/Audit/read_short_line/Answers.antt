use Rattle.std.proofs.Common.{◌≡◌, ◌∙◌, rules, sym, Some}
use Rattle.record_audit.proofs.Ending.{ended_line}
use Rattle.record_audit.proofs.audit.Audit.read_short_line.Goals as goal
use Rattle.record_audit.proofs.audit.Audit.read_short_line.Goals.{in-Event+in-Datagram-1}
use Rattle.record_audit.proofs.audit.Audit.read_short_line.Goals.{in-Event+in-Turn-1, in-PoolChange-1}

pub returns-in-Some-machine-clause-goes : goal.returns-in-Some-machine-clause-goes
returns-in-Some-machine-clause-goes c =
    let zone : c.args.self.now.zone ≡ Some c.in-Some-machine.machine = search rules in
    let awaited : c.args.self.now.awaited ≡ Some c.in-Some.what = search rules in
    let ended = ended_line c.end_step.result c.args.self.now c.match-what.self c.args.line.now
    c.in-Some-machine.machine c.end_step.new.machine c.in-Some.what
    (sym c.is_remark.ensures ∙ c.if-is_remark.false) zone awaited c.end_step.ensures.ok in
    elim c.match-what.branch [
      | in-Event+in-Datagram-1 w ↦ ended (search (rules, w.self-is))
      | in-Event+in-Turn-1 w ↦ ended (search (rules, w.self-is))
      | in-PoolChange-1 w ↦ ended (search (rules, w.self-is))
    ]
