use Rattle.std.proofs.Common.{ap, arith}
use Rattle.std.specs.FinMap as map
use Rattle.registrations.proofs.Stored.{len_stored, consistent, numbered}
use Rattle.registrations.proofs.table.Registrations.len.Goals as goal

pub returns-clause-len : goal.returns-clause-len
returns-clause-len c =
    let i = c.self.inside in
    omega (
      arith,
      c.len.ensures.len,
      len_stored i.rows i.by_identifier i.by_address i.most c.self.invariant.stored,
      ap (λ t. map.len t.live) c.self.view_is,
    )

pub returns-clause-few : goal.returns-clause-few
returns-clause-few c =
    let i = c.self.inside in
    omega (
      arith,
      len_stored i.rows i.by_identifier i.by_address i.most c.self.invariant.stored,
      c.self.invariant.stored.few,
      ap (λ t. map.len t.live) c.self.view_is,
      ap (λ t. t.most) c.self.view_is,
    )

pub returns-clause-sound : goal.returns-clause-sound
returns-clause-sound c =
    let i = c.self.inside in
    consistent i.rows i.by_identifier i.by_address i.deadlines i.legs i.ends i.times i.most
    c.self.invariant.stored _
    c.self.view_is

pub returns-clause-numbered : goal.returns-clause-numbered
returns-clause-numbered c =
    let i = c.self.inside in
    numbered i.rows i.by_identifier i.by_address i.deadlines i.legs i.ends i.times i.most
    c.self.invariant.stored _
    c.self.view_is
