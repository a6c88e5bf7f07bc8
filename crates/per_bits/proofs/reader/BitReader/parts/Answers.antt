use Rattle.std.proofs.Common.{◌-◌, refl, arith}
use Rattle.std.proofs.lemmas.Result.{err_from_is_err_and}
use Rattle.per_bits.proofs.Numbers.{number_read}
use Rattle.per_bits.proofs.ReadParts.{part_turn, part_short}
use Rattle.per_bits.proofs.reader.BitReader.parts.Goals as goal

pub returns-in_err-number-clause-gives : goal.returns-in_err-number-clause-gives
returns-in_err-number-clause-gives c =
    let fault = err_from_is_err_and c.from_residual.result c.from_residual.ensures.1 in
    let l = c.loop-left in
    rw (fault.1, fault.2) (
      part_short c.args.self.now (c.args.count - l.left) l.number c.min-taken.result c.args.count
          l.ahead _ l.invariant.so_far (omega arith) c.in_err-number.ensures.gives.0,
      refl,
    )

pub overflow_add-number : goal.overflow_add-number
overflow_add-number c =
    let l = c.loop-left in
    let turn = part_turn c.args.self.now c.args.count l.left c.min-taken.result l.number
    c.in_ok-number.field-0 l.ahead c.part.new.self l.invariant.so_far
    c.in_ok-number.ensures.gives l.invariant.within (omega arith) c.requires in
    omega (arith, turn.fits)

pub loop-left-preserved : goal.loop-left-preserved
loop-left-preserved c =
    let l = c.loop-left in
    let turn = part_turn c.args.self.now c.args.count l.left c.min-taken.result l.number
    c.in_ok-number.field-0 l.ahead c.part.new.self l.invariant.so_far
    c.in_ok-number.ensures.gives l.invariant.within (omega arith) c.requires in
    record { within = omega arith; so_far = turn.so_far }

pub returns-clause-gives : goal.returns-clause-gives
returns-clause-gives c =
    let l = c.loop-left in
    number_read c.args.count c.args.self.now l.ahead (c.args.count - l.left) l.number
    l.invariant.so_far (omega arith)
