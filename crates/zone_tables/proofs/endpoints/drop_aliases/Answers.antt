use Rattle.std.proofs.Common.{ap, arith, sym, ◌∙◌}
use Rattle.aliases.specs.Held.{without_aliases}
use Rattle.zone_tables.proofs.OwnAliases.{own_go, none_go}
use Rattle.zone_tables.proofs.endpoints.drop_aliases.Goals as goal

pub returns-in-Some : goal.returns-in-Some
returns-in-Some c =
    let live = c.args.registrations.now.live in
    let held = c.args.aliases.now.held in
    let id = c.args.id.now in
    let r = c.in-Some.registration.now in
    record {
      rows = c.drop_all.ensures.rows
          ∙ (ap (λ xs. without_aliases held xs id) c.as_slice.ensures.items
          ∙ own_go live held id c.requires r (sym c.in-Some.ensures.found));
      room = c.drop_all.ensures.room;
    }

pub returns-in_default : goal.returns-in_default
returns-in_default c =
    let live = c.args.registrations.now.live in
    record {
      rows = none_go live c.args.aliases.now.held c.args.id.now c.requires
          (sym c.in_default.ensures.found);
      room = omega (arith);
    }
