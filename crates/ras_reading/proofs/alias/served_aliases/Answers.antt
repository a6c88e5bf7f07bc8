use Rattle.std.proofs.Common.{[], arith, refl, inr}
use Rattle.std.proofs.lemmas.Result.{err_from_is_err_and}
use Rattle.ras_grammar.specs.Aliases.{alias_address, served_in, keeping}
use Rattle.ras_reading.proofs.Each.{each-fault, each-more, each-made}
use Rattle.ras_reading.proofs.Kept.{fold_list-keeping}
use Rattle.ras_reading.proofs.alias.served_aliases.Goals as goal

pub returns-in_err-alias : goal.returns-in_err-alias
returns-in_err-alias c =
    let p = err_from_is_err_and c.from_residual.result c.from_residual.ensures.1 in
    rw (p.1, p.2) (inr (rw (each-fault keeping alias_address c.args.count c.loop.counter []
    c.loop.aliases c.args.decoder.now c.loop.decoder c.loop.invariant _ c.loop-test.true
    c.in_err-alias.ensures) refl))

pub loop-preserved : goal.loop-preserved
loop-preserved c = rw c.in_ok-keep.ensures (each-more keeping alias_address c.args.count
    c.loop.counter [] c.loop.aliases c.args.decoder.now c.loop.decoder c.loop.invariant
    c.in_ok-alias.alias c.alias_address.new.decoder c.loop-test.true c.in_ok-alias.ensures)

pub returns : goal.returns
returns c = each-made keeping alias_address c.args.count c.loop.counter [] c.loop.aliases
    c.args.decoder.now c.loop.decoder c.loop.invariant served_in fold_list-keeping (omega arith)
