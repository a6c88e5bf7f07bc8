use Rattle.std.proofs.Common.{ap, arith}
use Rattle.std.specs.FinMap as map
use Rattle.registrations.proofs.Stored.{len_stored}
use Rattle.registrations.proofs.table.Registrations.unused.Goals as goal

pub unused_from-requires : goal.unused_from-requires
unused_from-requires c =
    let i = c.self.inside in
    omega (
      arith,
      len_stored i.rows i.by_identifier i.by_address i.most c.self.invariant.stored,
      c.self.invariant.stored.few,
      c.self.invariant.stored.most_few,
      ap (λ t. map.len t.live) c.self.view_is,
    )
