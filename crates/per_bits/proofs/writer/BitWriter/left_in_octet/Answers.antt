use Rattle.std.proofs.Common.{◌-◌, vec_len, vec_capacity}
use Rattle.per_bits.proofs.WrittenParts.{place_left}
use Rattle.per_bits.proofs.writer.BitWriter.left_in_octet.Goals as goal

pub returns : goal.returns
returns c =
    let a = c.self.inside in
    rw c.from.ensures
    (place_left c.args.self.now a.octets.items a.begun a.used
    (vec_capacity a.octets - vec_len a.octets) c.self.view_is c.self.invariant.0)
