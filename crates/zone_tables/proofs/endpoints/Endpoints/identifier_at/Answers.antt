use Rattle.std.proofs.Common.{◌≡◌, ◌∙◌, Some, ap, subst, sym}
use Rattle.std.specs.Prelude.{IsSome}
use Rattle.std.specs.Option.{option_copied}
use Rattle.std.specs.FinMap as map
use Rattle.registrations.specs.Registry.{at_address}
use Rattle.zone_tables.specs.Parts.{Roster}
use Rattle.zone_tables.proofs.Addressed.{is_registered_at}
use Rattle.zone_tables.proofs.endpoints.Endpoints.identifier_at.Goals as goal

pub returns-clause-live : goal.returns-clause-live
returns-clause-live c =
    let live = c.self.inside.registrations.live in
    let r = c.unwrap.result.now in
    let found : at_address live c.args.address ≡ Some r =
    sym c.by_address.ensures.found ∙ ap option_copied c.unwrap.ensures in
    subst (λ (e : Roster). IsSome (map.get e.roll.live r.identifier)) c.self.view_is
    (is_registered_at live c.by_address.ensures.sound c.args.address r found)
