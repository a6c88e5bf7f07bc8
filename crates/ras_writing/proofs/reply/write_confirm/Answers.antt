use Rattle.std.proofs.Common.{arith, ◌≡◌}
use Rattle.ras_module.specs.declared.reply.Reply.TheVariants.{Rcf}
use Rattle.ras_writing.specs.Encoding.{behind}
use Rattle.ras_writing.specs.Replies.{components, encoding_of}
use Rattle.per_bits.specs.Bits.{bits_of}
use Rattle.ras_writing.proofs.Behind.{Fit, appended}
use Rattle.ras_writing.proofs.reply.write_confirm.Goals as goal

pub returns-clause-written : goal.returns-clause-written
unfolding encoding_of
returns-clause-written c =
    let fit_old : Fit c.args.octets.now.items = λ i h. omega arith in
    let fit_new : Fit c.finish.result.items = λ i h. omega arith in
    let begun : c.new-writer.result.bits ≡ bits_of c.args.octets.now.items = cc in
    let written : c.registration_confirm.new.writer.bits ≡ behind (components (Rcf c.args.confirm.now))
    (bits_of c.args.octets.now.items) = rw (← begun) c.registration_confirm.ensures.writes.0 in
    appended c.args.octets.now.items c.finish.result.items
    (components (Rcf c.args.confirm.now)) c.registration_confirm.new.writer.bits fit_old fit_new written
    c.finish.ensures
