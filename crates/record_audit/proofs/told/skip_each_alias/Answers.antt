use Rattle.std.proofs.Common.{arith}
use Rattle.std.proofs.lemmas.Result.{err_from_is_err_and}
use Rattle.record_audit.specs.Told.{passed_alias}
use Rattle.ras_reading.proofs.Each.{dropping, each-more, dropped-done, dropped-fault}
use Rattle.record_audit.proofs.told.skip_each_alias.Goals as goal

pub returns-in_err-skip_alias : goal.returns-in_err-skip_alias
returns-in_err-skip_alias c =
    let p = err_from_is_err_and c.from_residual.result c.from_residual.ensures.1 in
    rw (p.1, p.2) (dropped-fault passed_alias c.args.count c.loop.counter c.args.decoder.now
    c.loop.decoder c.loop.invariant _ c.loop-test.true c.in_err-skip_alias.ensures)

pub loop-preserved : goal.loop-preserved
loop-preserved c = each-more dropping passed_alias c.args.count c.loop.counter tt tt
    c.args.decoder.now c.loop.decoder c.loop.invariant c.in_ok-skip_alias.field-0
    c.skip_alias.new.decoder c.loop-test.true c.in_ok-skip_alias.ensures

pub returns : goal.returns
returns c = dropped-done passed_alias c.args.count c.loop.counter c.args.decoder.now c.loop.decoder
    c.loop.invariant (omega arith)
