use Rattle.std.proofs.Common.{ap, Ok, Err}
use Rattle.script.specs.Prints.{upshot_line}
use Rattle.script.specs.Streams.{OutputState}
use Rattle.script.proofs.KnownBytes.{appends_at_ok}
use Rattle.script.proofs.Running.{is_refused}
use Rattle.script.proofs.run.run_replacement.Goals as goal

pub returns-in-Ok-written : goal.returns-in-Ok-written
returns-in-Ok-written g c =
    let start = c.args.out.now.contents in
    let end = c.match-replace.out.contents in
    let line = upshot_line c.args.number in
    elim c.match-replace.branch [
      | goal.in-Ok w ↦ (
        Ok w.in-Ok.outcome,
        (record { step = w.in-Ok.ensures.step; tallies = w.in-Ok.ensures.tallies }),
        appends_at_ok c.match-replace.written w.write_outcome-written.result c.in-Ok-written.field-0
            start w.write_outcome-written.new.out.contents end (line (Ok w.in-Ok.outcome))
            c.in-Ok-written.is w.written-is (ap (λ (o : OutputState). o.contents) w.out-is)
            w.write_outcome-written.ensures,
      )
      | goal.in-Err+in_default w ↦ (
        Err w.in-Err.fault,
        is_refused c.args.zone.now c.replace.new.self c.args.replacement
            (g.P.Pool.account c.args.fresh) (g.P.Pool.account w.in-Err._fresh) w.in-Err.fault
            w.in-Err.ensures.fault w.in-Err.ensures.err w.in_default.not-Closed
            w.in_default.not-Memory,
        appends_at_ok c.match-replace.written w.write_refusal.result c.in-Ok-written.field-0
            start w.write_refusal.new.out.contents end (line (Err w.in-Err.fault))
            c.in-Ok-written.is w.written-is (ap (λ (o : OutputState). o.contents) w.out-is)
            w.write_refusal.ensures,
      )
    ]
