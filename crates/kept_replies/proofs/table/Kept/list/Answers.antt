use Rattle.std.proofs.Common.{◌≡◌, subst}
use Rattle.std.specs.Prelude.{IfOk}
use Rattle.std.specs.FinMap as map
use Rattle.keyed.specs.Places.{entries_of}
use Rattle.kept_replies.specs.Kept.{Births, birth_of, itself}
use Rattle.kept_replies.specs.inside.Rows.{rows_seen}
use Rattle.kept_replies.proofs.Births.{born_apart, births_are}
use Rattle.kept_replies.proofs.table.Kept.list.Goals as goal

pub rising-requires : goal.rising-requires
rising-requires c =
    let i = c.self.inside in
    born_apart (rows_seen i.rows i.due) i.most c.self.invariant.0

pub returns : goal.returns
returns c =
    let i = c.self.inside in
    subst (λ (b : Births).
    IfOk c.rising.result (λ list. entries_of birth_of itself list ≡ map.entries b))
    (births_are (rows_seen i.rows i.due) i.most c.args.self.now c.self.invariant.0 c.self.view_is)
    c.rising.ensures
