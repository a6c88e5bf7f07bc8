use Rattle.std.proofs.Common.{arith}
use Rattle.per_bits.proofs.ReadParts.{place_seen}
use Rattle.per_bits.proofs.reader.BitReader.left_in_octet.Goals as goal

pub returns : goal.returns
returns c =
    let a = c.self.inside in
    let held = c.self.invariant in
    let place = place_seen c.args.self.now a.rest.now a.used c.self.view_is held.0 held.1 in
    omega (arith, place)
