use Rattle.std.proofs.Common.{length, refl, ap, arith}
use Rattle.per_bits.proofs.ReadParts.{place_seen, part_read, part_last, none_here}
use Rattle.per_bits.proofs.reader.BitReader.part.Goals as goal

pub returns-in_default : goal.returns-in_default
returns-in_default c =
    let a = c.self.inside in
    let none = c.in_default.ensures.cases in
    record {
      gives = (
        none_here c.args.self.now a.rest.now a.used c.args.count c.self.view_is none
            c.requires.some,
        refl,
      );
    }

pub overflow_sub-number : goal.overflow_sub-number
overflow_sub-number c =
    let a = c.self.inside in
    let held = c.self.invariant in
    let place = place_seen c.args.self.now a.rest.now a.used c.self.view_is held.0 held.1 in
    omega arith

pub invariant_of-self-else-end-eq8 : goal.invariant_of-self-else-end-eq8
invariant_of-self-else-end-eq8 c =
    let a = c.self.inside in
    let held = c.self.invariant in
    let place = place_seen c.args.self.now a.rest.now a.used c.self.view_is held.0 held.1 in
    let some = ap length c.in-Some.ensures.cases.0 in
    (omega arith, omega (arith, some))

pub returns-then-end-eq8 : goal.returns-then-end-eq8
returns-then-end-eq8 c =
    let a = c.self.inside in
    record {
      gives = rw (c.from.ensures, c.from-2.ensures)
          (part_last c.args.self.now a.rest.now c.in-Some.others.now c.in-Some.first.now a.used
          c.args.count c.self.view_is c.in-Some.ensures.cases.0
          (rw c.from.ensures at c.if-end-eq8.true));
    }

pub returns-else-end-eq8 : goal.returns-else-end-eq8
returns-else-end-eq8 c =
    let a = c.self.inside in
    let held = c.self.invariant in
    let place = place_seen c.args.self.now a.rest.now a.used c.self.view_is held.0 held.1 in
    record {
      gives = rw (c.from.ensures, c.from-2.ensures)
          (part_read c.args.self.now a.rest.now c.in-Some.others.now c.in-Some.first.now a.used
          c.args.count c.self.view_is c.in-Some.ensures.cases.0 (omega arith));
    }
