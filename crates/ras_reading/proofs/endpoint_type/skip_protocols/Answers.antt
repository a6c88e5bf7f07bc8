use Rattle.std.proofs.Common.{arith}
use Rattle.std.proofs.lemmas.Result.{err_from_is_err_and}
use Rattle.ras_reading.specs.EndpointTypes.{supported_protocols}
use Rattle.ras_reading.proofs.Each.{dropping, each-more, dropped-done, dropped-fault}
use Rattle.ras_reading.proofs.endpoint_type.skip_protocols.Goals as goal

pub returns-in_err-supported_protocols : goal.returns-in_err-supported_protocols
returns-in_err-supported_protocols c =
    let p = err_from_is_err_and c.from_residual.result c.from_residual.ensures.1 in
    rw (p.1, p.2) (dropped-fault supported_protocols c.args.count c.loop.counter
    c.args.decoder.now c.loop.decoder c.loop.invariant _ c.loop-test.true
    c.in_err-supported_protocols.ensures)

pub loop-preserved : goal.loop-preserved
loop-preserved c = each-more dropping supported_protocols c.args.count c.loop.counter tt tt
    c.args.decoder.now c.loop.decoder c.loop.invariant c.in_ok-supported_protocols.field-0
    c.supported_protocols.new.decoder c.loop-test.true c.in_ok-supported_protocols.ensures

pub returns : goal.returns
returns c = dropped-done supported_protocols c.args.count c.loop.counter c.args.decoder.now
    c.loop.decoder c.loop.invariant (omega arith)
