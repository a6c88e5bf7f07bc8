use Rattle.std.proofs.Common.{ap, ◌∙◌}
use Rattle.std.specs.FinMap as map
use Rattle.kept_replies.specs.inside.Rows.{rows_seen}
use Rattle.kept_replies.proofs.StoredKept.{get_row, IsConsistent-stored}
use Rattle.kept_replies.proofs.table.Kept.find.Goals as goal

pub returns-clause-found : goal.returns-clause-found
returns-clause-found c =
    c.get.ensures.value
    ∙ (get_row c.self.inside.rows c.args.key.now
    ∙ ap (λ t. map.get t.kept c.args.key.now) c.self.view_is)

pub returns-clause-sound : goal.returns-clause-sound
returns-clause-sound c =
    let i = c.self.inside in
    IsConsistent-stored (rows_seen i.rows i.due) i.most c.args.self.now c.self.invariant.0
    c.self.view_is
