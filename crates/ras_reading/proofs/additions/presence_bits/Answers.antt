use Rattle.std.proofs.Common.{◌<◌, arith, ◌∙◌, length, length-set}
use Rattle.std.proofs.lemmas.Result.{err_from_is_err_and}
use Rattle.ras_grammar.specs.Grammar.{boolean}
use Rattle.ras_reading.proofs.Each.{adding, each-fault, array-more, array-done}
use Rattle.ras_reading.proofs.additions.presence_bits.Goals as goal

pub returns-in_err-present : goal.returns-in_err-present
returns-in_err-present c =
    let p = err_from_is_err_and c.from_residual.result c.from_residual.ensures.1 in
    rw (p.1, p.2) (each-fault adding boolean c.args.count c.loop-i.i _ _ c.args.decoder.now
    c.loop-i.decoder c.loop-i.invariant.so_far _ c.loop-i-test.true
    c.in_err-present.ensures.0)

pub loop-i-preserved : goal.loop-i-preserved
loop-i-preserved c =
    let within : c.loop-i.i < length c.loop-i.present = omega (arith, c.loop-i.invariant.full) in
    record {
      full = length-set c.loop-i.present c.loop-i.i c.in_ok-present.field-0
          ∙ c.loop-i.invariant.full;
      so_far = array-more boolean c.args.count c.loop-i.i c.loop-i.present c.args.decoder.now
          c.loop-i.decoder c.loop-i.invariant.so_far c.in_ok-present.field-0 c.boolean.new.self
          c.loop-i-test.true within c.in_ok-present.ensures;
    }

pub returns : goal.returns
returns c = array-done boolean c.args.count c.loop-i.i c.loop-i.present c.args.decoder.now
    c.loop-i.decoder c.loop-i.invariant.so_far (omega arith)
