use Rattle.std.proofs.Common.{◌≡◌, ◌-◌, arith, sym, ◌∙◌, vec_len, vec_capacity}
use Rattle.per_bits.proofs.Writing.{place_shown}
use Rattle.per_bits.proofs.WrittenParts.{octet_more}
use Rattle.per_bits.proofs.writer.BitWriter.whole_octet.Goals as goal

pub returns : goal.returns
returns c =
    let a = c.self.inside in
    let b = c.push_reserved.new.self in
    let space = vec_capacity a.octets - vec_len a.octets in
    let none : a.used ≡ 0 =
    sym (place_shown c.args.self.now a.octets.items a.begun a.used space c.self.view_is
    c.self.invariant.0)
    ∙ c.requires.begins in
    octet_more c.args.self.now a.octets.items b.items a.begun a.used space
    (vec_capacity b - vec_len b) c.args.n c.self.view_is none c.push_reserved.ensures.items
    (omega (
      arith,
      c.push_reserved.ensures.len,
      c.push_reserved.ensures.capacity,
      c.requires.room,
    ))
