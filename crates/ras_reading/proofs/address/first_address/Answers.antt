use Rattle.std.proofs.Common.{None, arith, refl}
use Rattle.std.specs.Option.{option_or}
use Rattle.std.proofs.lemmas.Result.{err_from_is_err_and}
use Rattle.ras_grammar.specs.Addresses.{transport_address, first_of}
use Rattle.ras_reading.proofs.Each.{each-fault, each-more, each-made}
use Rattle.ras_reading.proofs.Firsts.{fold_list-option_or}
use Rattle.ras_reading.proofs.address.first_address.Goals as goal

pub returns-in_err-address : goal.returns-in_err-address
returns-in_err-address c =
    let p = err_from_is_err_and c.from_residual.result c.from_residual.ensures.1 in
    rw (p.1, p.2) (rw (each-fault option_or transport_address c.args.count c.loop.counter None
    c.loop.first c.args.decoder.now c.loop.decoder c.loop.invariant _ c.loop-test.true
    c.in_err-address.ensures) refl)

pub loop-preserved : goal.loop-preserved
loop-preserved c = rw c.or-first.ensures (each-more option_or transport_address c.args.count
    c.loop.counter None c.loop.first c.args.decoder.now c.loop.decoder c.loop.invariant
    c.in_ok-address.address c.transport_address.new.decoder c.loop-test.true
    c.in_ok-address.ensures)

pub returns : goal.returns
returns c = each-made option_or transport_address c.args.count c.loop.counter None c.loop.first
    c.args.decoder.now c.loop.decoder c.loop.invariant first_of fold_list-option_or (omega arith)
