use Rattle.ras_writing.proofs.EncodedReplies.{octets_decide}
use Rattle.ras_writing.proofs.encoded.EncodedReplyPartialEq.eq.Goals as goal

pub returns : goal.returns
returns c = octets_decide c.args.self.now c.args.other.now c.as_slice.result.now
    c.as_slice-2.result.now c.are_same.result c.are_same.ensures c.as_slice.ensures.octets
    c.as_slice-2.ensures.octets c.as_slice.ensures.read c.as_slice-2.ensures.read
