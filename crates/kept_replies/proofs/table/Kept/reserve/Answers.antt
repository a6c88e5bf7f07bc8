use Rattle.kept_replies.specs.inside.Rows.{rows_seen}
use Rattle.kept_replies.proofs.StoredKept.{IsConsistent-stored}
use Rattle.kept_replies.proofs.table.Kept.reserve.Goals as goal

pub returns-then-is_busy-clause-sound : goal.returns-then-is_busy-clause-sound
returns-then-is_busy-clause-sound c =
    let i = c.self.inside in
    IsConsistent-stored (rows_seen i.rows i.due) i.most _ c.self.invariant.0 c.self.view_is
