use Rattle.std.proofs.Common.{◌≡◌, ◌+◌, ◌-◌, arith, vec_len, vec_capacity}
use Rattle.per_bits.proofs.Writing.{place_shown}
use Rattle.per_bits.proofs.WrittenParts.{begun_more, part_begun, part_full, room_shown}
use Rattle.per_bits.proofs.writer.BitWriter.part.Goals as goal

pub overflow_cast-begun : goal.overflow_cast-begun
overflow_cast-begun c =
    let a = c.self.inside in
    let more = begun_more a.begun a.used c.args.count c.args.n c.self.invariant.1 c.requires.small
    (let full : a.used + c.args.count ≡ 8 = omega arith in omega arith) in
    rw c.from.ensures (omega (arith, more.fits))

pub overflow_cast-self : goal.overflow_cast-self
overflow_cast-self c =
    let a = c.self.inside in
    let place = place_shown c.args.self.now a.octets.items a.begun a.used
    (vec_capacity a.octets - vec_len a.octets) c.self.view_is c.self.invariant.0 in
    let more = begun_more a.begun a.used c.args.count c.args.n c.self.invariant.1 c.requires.small
    (omega arith) in
    rw c.from.ensures (omega (arith, more.fits))

pub invariant_of-self-else-used-eq8 : goal.invariant_of-self-else-used-eq8
invariant_of-self-else-used-eq8 c =
    let a = c.self.inside in
    let place = place_shown c.args.self.now a.octets.items a.begun a.used
    (vec_capacity a.octets - vec_len a.octets) c.self.view_is c.self.invariant.0 in
    let room = room_shown c.args.self.now a.octets.items a.begun a.used
    (vec_capacity a.octets - vec_len a.octets) c.self.view_is in
    let more = begun_more a.begun a.used c.args.count c.args.n c.self.invariant.1 c.requires.small
    (omega arith) in
    (omega arith, rw (c.from.ensures, c.from-2.ensures) more.below, omega arith)

pub returns-then-used-eq8 : goal.returns-then-used-eq8
returns-then-used-eq8 c =
    let a = c.self.inside in
    let b = c.push_reserved.new.self in
    let full : a.used + c.args.count ≡ 8 = omega arith in
    let more = begun_more a.begun a.used c.args.count c.args.n c.self.invariant.1 c.requires.small
    (omega arith) in
    part_full c.args.self.now a.octets.items b.items a.begun a.used
    (vec_capacity a.octets - vec_len a.octets) (vec_capacity b - vec_len b) c.args.count c.args.n
    _ c.self.view_is more full (rw c.from.ensures at c.push_reserved.ensures.items)
    (omega (
      arith,
      c.push_reserved.ensures.len,
      c.push_reserved.ensures.capacity,
      c.self.invariant.2,
    ))

pub returns-else-used-eq8 : goal.returns-else-used-eq8
returns-else-used-eq8 c =
    let a = c.self.inside in
    let space = vec_capacity a.octets - vec_len a.octets in
    let place = place_shown c.args.self.now a.octets.items a.begun a.used space c.self.view_is
    c.self.invariant.0 in
    let more = begun_more a.begun a.used c.args.count c.args.n c.self.invariant.1 c.requires.small
    (omega arith) in
    rw (c.from.ensures, c.from-2.ensures)
    (part_begun c.args.self.now a.octets.items a.begun a.used space c.args.count c.args.n _
    c.self.view_is more)
