use Rattle.std.specs.FinMap as map
use Rattle.std.proofs.lemmas.Bool.Decides.{Decides-at}
use Rattle.keyed.proofs.Same.{found_decides}
use Rattle.admission.proofs.Deciding.{calls_decide}
use Rattle.admission.proofs.table.Calls.has.Goals as goal

pub returns-in-Some : goal.returns-in-Some
returns-in-Some c =
    let found = c.in-Some.found.now in
    let call = c.args.call.now in
    found_decides c.eq.result found call (map.get c.args.self.now.calls c.args.key.now)
    (Decides-at _ _ c.eq.ensures (calls_decide found call)) c.in-Some.ensures.found
