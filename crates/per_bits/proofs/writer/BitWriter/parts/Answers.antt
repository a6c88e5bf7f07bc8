use Rattle.std.proofs.Common.{◌-◌, arith}
use Rattle.per_bits.proofs.Writing.{write_done}
use Rattle.per_bits.proofs.WrittenParts.{write_part}
use Rattle.per_bits.proofs.writer.BitWriter.parts.Goals as goal

pub loop-left-preserved : goal.loop-left-preserved
loop-left-preserved c =
    let l = c.loop-left in
    let next = write_part c.args.self.now l.self c.part.new.self c.args.count l.left
    c.min-taken.result c.args.n l.invariant.so_far l.invariant.within (omega arith) (omega arith)
    c.part.ensures c.requires.room in
    record { within = omega arith; so_far = next }

pub returns : goal.returns
returns c =
    let l = c.loop-left in
    write_done c.args.self.now l.self c.args.count (c.args.count - l.left) c.args.n (omega arith)
    l.invariant.so_far
