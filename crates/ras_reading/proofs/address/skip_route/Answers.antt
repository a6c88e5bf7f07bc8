use Rattle.std.proofs.Common.{arith}
use Rattle.std.proofs.lemmas.Result.{err_from_is_err_and}
use Rattle.ras_grammar.specs.Grammar.{octets}
use Rattle.ras_reading.proofs.Each.{dropping, each-more, dropped-done, dropped-fault}
use Rattle.ras_reading.proofs.address.skip_route.Goals as goal

pub returns-in_err-octets : goal.returns-in_err-octets
returns-in_err-octets c =
    let p = err_from_is_err_and c.from_residual.result c.from_residual.ensures.1 in
    rw (p.1, p.2) (dropped-fault (octets 4) c.args.count c.loop.counter c.args.decoder.now
    c.loop.decoder c.loop.invariant _ c.loop-test.true c.in_err-octets.ensures.gives.0)

pub loop-preserved : goal.loop-preserved
loop-preserved c = each-more dropping (octets 4) c.args.count c.loop.counter tt tt
    c.args.decoder.now c.loop.decoder c.loop.invariant c.in_ok-octets.field-0.now c.octets.new.self
    c.loop-test.true c.in_ok-octets.ensures.gives

pub returns : goal.returns
returns c = dropped-done (octets 4) c.args.count c.loop.counter c.args.decoder.now c.loop.decoder
    c.loop.invariant (omega arith)
