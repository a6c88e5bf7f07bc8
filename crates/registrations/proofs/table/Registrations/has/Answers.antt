use Rattle.std.specs.FinMap as map
use Rattle.std.proofs.lemmas.Bool.Decides.{Decides-at}
use Rattle.keyed.proofs.Same.{found_decides}
use Rattle.registrations.proofs.Deciding.{registrations_decide}
use Rattle.registrations.proofs.table.Registrations.has.Goals as goal

pub returns-in-Some : goal.returns-in-Some
returns-in-Some c =
    let found = c.in-Some.found.now in
    let row = c.args.row.now in
    found_decides c.eq.result found row (map.get c.args.self.now.live row.identifier)
    (Decides-at _ _ c.eq.ensures (registrations_decide found row)) c.in-Some.ensures.found
