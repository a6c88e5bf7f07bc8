use Rattle.std.proofs.Common.{◌≡◌, refl, sym, ◌∙◌, arith}
use Rattle.per_bits.proofs.ReadParts.{place_seen, two_read, two_short}
use Rattle.per_bits.proofs.reader.BitReader.two_octets.Goals as goal

pub returns-in_default-clause-gives : goal.returns-in_default-clause-gives
returns-in_default-clause-gives c =
    let a = c.self.inside in
    let none = c.in_default.ensures.cases in
    (two_short c.args.self.now a.rest.now a.used c.self.view_is (omega (arith, none)), refl)

pub returns-in_default-split_first-clause-gives : goal.returns-in_default-split_first-clause-gives
returns-in_default-split_first-clause-gives c =
    let a = c.self.inside in
    let none = c.in_default-split_first.ensures.cases in
    let one = c.in-Some.ensures.cases.1 in
    (two_short c.args.self.now a.rest.now a.used c.self.view_is (omega (arith, none, one)), refl)

pub invariant_of-self : goal.invariant_of-self
invariant_of-self c =
    let a = c.self.inside in
    let held = c.self.invariant in
    let place = place_seen c.args.self.now a.rest.now a.used c.self.view_is held.0 held.1 in
    (held.0, omega (arith, place, c.requires))

pub returns-clause-gives : goal.returns-clause-gives
returns-clause-gives c =
    let a = c.self.inside in
    let held = c.self.invariant in
    let none : a.used ≡ 0 =
    sym (place_seen c.args.self.now a.rest.now a.used c.self.view_is held.0 held.1)
    ∙ c.requires in
    rw (c.from.ensures, c.from-2.ensures)
    (two_read c.args.self.now a.rest.now c.in-Some.behind.now c.in-Some-split_first.others.now
    c.in-Some.first.now c.in-Some-split_first.second.now a.used c.self.view_is none
    c.in-Some.ensures.cases.0 c.in-Some-split_first.ensures.cases.0 (omega arith) (omega arith))
