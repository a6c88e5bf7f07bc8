use Rattle.std.proofs.Common.{◌≤◌, List, ℕ, length, ◌∙◌, subst, sym, arith}
use Rattle.ras_module.specs.declared.reply.TheConstants.Reply as reply_octets
use Rattle.ras_module.specs.declared.reply.Reply.TheVariants.{Rcf}
use Rattle.ras_writing.proofs.EncodedReplies.{encoded, read_from}
use Rattle.ras_writing.proofs.encoded.EncodedReply.of_confirm.Goals as goal

pub invariant_of-result : goal.invariant_of-result
invariant_of-result c = (
  encoded (Rcf c.args.confirm.now) c.filled.result.items c.requires.reads_back
      (c.filled.ensures.items ∙ c.requires.written)
      (subst (λ (t : List ℕ). length t ≤ reply_octets.MOST) (sym c.filled.ensures.items)
      c.requires.few),
  omega (arith, c.filled.ensures.capacity, c.requires.bounded),
)

pub returns : goal.returns
returns c = read_from (Rcf c.args.confirm.now) c.filled.result.items c.requires.reads_back
    (c.filled.ensures.items ∙ c.requires.written)
