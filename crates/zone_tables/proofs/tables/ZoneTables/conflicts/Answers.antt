use Rattle.std.proofs.Common.{length, ap, arith}
use Rattle.registrations.specs.Agreement.{is_registered_elsewhere}
use Rattle.zone_tables.proofs.Fitting.{fits, length-filter}
use Rattle.zone_tables.proofs.tables.ZoneTables.conflicts.Goals as goal

pub unwrap-requires : goal.unwrap-requires
unwrap-requires c =
    let aliases = c.as_slice.result.now in
    let elsewhere = is_registered_elsewhere c.self.inside.endpoints.roll.live c.args.address in
    fits c.in_ok-new.field-0 c.in_ok-held.held c.in_ok-new.ensures
    (omega (
      arith,
      ap length c.in_ok-held.ensures,
      length-filter elsewhere aliases,
      ap length c.as_slice.ensures.items,
      c.as_slice.ensures.few,
    ))
