use Rattle.std.proofs.Common.{sym, ◌∙◌}
use Rattle.kept_replies.specs.inside.Rows.{rows_seen}
use Rattle.kept_replies.proofs.StoredKept.{IsConsistent-stored, len_stored}
use Rattle.kept_replies.proofs.table.Kept.len.Goals as goal

pub returns-clause-len : goal.returns-clause-len
returns-clause-len c =
    let i = c.self.inside in
    c.len.ensures.len
    ∙ sym (len_stored (rows_seen i.rows i.due) i.most c.args.self.now c.self.invariant.0
    c.self.view_is)

pub returns-clause-sound : goal.returns-clause-sound
returns-clause-sound c =
    let i = c.self.inside in
    IsConsistent-stored (rows_seen i.rows i.due) i.most c.args.self.now c.self.invariant.0
    c.self.view_is
