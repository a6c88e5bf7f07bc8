use Rattle.std.proofs.Common.{arith, ◌≡◌}
use Rattle.ras_writing.specs.Encoding.{behind}
use Rattle.ras_writing.specs.Replies.{components, encoding_of}
use Rattle.per_bits.specs.Bits.{bits_of}
use Rattle.ras_writing.proofs.Behind.{Fit, appended}
use Rattle.ras_writing.proofs.reply.write_reserved.Goals as goal

pub returns-clause-written : goal.returns-clause-written
unfolding encoding_of
returns-clause-written c =
    let fit_old : Fit c.args.octets.now.items = λ i h. omega arith in
    let fit_new : Fit c.finish.result.items = λ i h. omega arith in
    let begun : c.new-writer.result.bits ≡ bits_of c.args.octets.now.items = cc in
    let written : c.write_components.new.writer.bits ≡ behind (components c.args.reply.now)
    (bits_of c.args.octets.now.items) = rw (← begun) c.write_components.ensures.writes.0 in
    appended c.args.octets.now.items c.finish.result.items
    (components c.args.reply.now) c.write_components.new.writer.bits fit_old fit_new written
    c.finish.ensures
