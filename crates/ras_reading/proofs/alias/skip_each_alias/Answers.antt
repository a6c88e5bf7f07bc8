use Rattle.std.proofs.Common.{arith}
use Rattle.std.proofs.lemmas.Result.{err_from_is_err_and}
use Rattle.ras_grammar.specs.Aliases.{alias_address}
use Rattle.ras_reading.proofs.Each.{dropping, each-more, dropped-done, dropped-fault}
use Rattle.ras_reading.proofs.alias.skip_each_alias.Goals as goal

pub returns-in_err-alias_address : goal.returns-in_err-alias_address
returns-in_err-alias_address c =
    let p = err_from_is_err_and c.from_residual.result c.from_residual.ensures.1 in
    rw (p.1, p.2) (dropped-fault alias_address c.args.count c.loop.counter c.args.decoder.now
    c.loop.decoder c.loop.invariant _ c.loop-test.true c.in_err-alias_address.ensures)

pub loop-preserved : goal.loop-preserved
loop-preserved c = each-more dropping alias_address c.args.count c.loop.counter tt tt
    c.args.decoder.now c.loop.decoder c.loop.invariant c.in_ok-alias_address.field-0
    c.alias_address.new.decoder c.loop-test.true c.in_ok-alias_address.ensures

pub returns : goal.returns
returns c = dropped-done alias_address c.args.count c.loop.counter c.args.decoder.now c.loop.decoder
    c.loop.invariant (omega arith)
