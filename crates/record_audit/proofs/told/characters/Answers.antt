use Rattle.std.proofs.Common.{◌≡◌, ◌<◌, arith, ◌∙◌, length, length-set}
use Rattle.std.proofs.lemmas.Result.{err_from_is_err_and}
use Rattle.ras_grammar.specs.Grammar.{bits}
use Rattle.ras_reading.proofs.Each.{adding, each-fault, array-more, array-done}
use Rattle.ras_reading.proofs.Pads.{zeros_after, filled}
use Rattle.record_audit.proofs.told.characters.Goals as goal

pub returns-in_err-characters-clause-gives : goal.returns-in_err-characters-clause-gives
returns-in_err-characters-clause-gives c =
    let p = err_from_is_err_and c.from_residual.result c.from_residual.ensures.1 in
    rw (p.1, p.2) (each-fault adding (bits 16) c.args.count c.loop-i.i _ _ c.args.decoder.now
    c.loop-i.decoder c.loop-i.invariant.so_far _ c.loop-i-test.true
    c.in_err-characters.ensures.gives.0)

pub loop-i-preserved : goal.loop-i-preserved
loop-i-preserved c =
    let within : c.loop-i.i < length c.loop-i.characters = omega (arith, c.loop-i.invariant.full) in
    record {
      full = length-set c.loop-i.characters c.loop-i.i c.in_ok-characters.field-0
          ∙ c.loop-i.invariant.full;
      so_far = array-more (bits 16) c.args.count c.loop-i.i c.loop-i.characters c.args.decoder.now
          c.loop-i.decoder c.loop-i.invariant.so_far c.in_ok-characters.field-0 c.bits.new.self
          c.loop-i-test.true within c.in_ok-characters.ensures.gives;
      zeros = zeros_after c.loop-i.characters c.loop-i.i 128 c.in_ok-characters.field-0
          c.loop-i.invariant.zeros;
    }

pub returns-clause-gives : goal.returns-clause-gives
returns-clause-gives c = array-done (bits 16) c.args.count c.loop-i.i c.loop-i.characters
    c.args.decoder.now c.loop-i.decoder c.loop-i.invariant.so_far (omega arith)

pub returns-clause-padded : goal.returns-clause-padded
returns-clause-padded c =
    let ended : c.loop-i.i ≡ c.args.count = omega arith in
    filled 128 c.loop-i.characters c.args.count (omega arith) (omega arith)
    c.loop-i.invariant.full (rw (← ended) c.loop-i.invariant.zeros)
