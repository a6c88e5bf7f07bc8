use Rattle.std.specs.FinMap as map
use Rattle.std.proofs.lemmas.Bool.Decides.{Decides-at}
use Rattle.keyed.proofs.Same.{found_decides}
use Rattle.kept_replies.proofs.Deciding.{entries_decide}
use Rattle.kept_replies.proofs.table.Kept.has.Goals as goal

pub returns-in-Some : goal.returns-in-Some
returns-in-Some c =
    let found = c.in-Some.found.now in
    let entry = c.args.entry.now in
    found_decides c.eq.result found entry (map.get c.args.self.now.kept c.args.key.now)
    (Decides-at _ _ c.eq.ensures (entries_decide found entry)) c.in-Some.ensures.found
