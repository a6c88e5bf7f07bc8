use Rattle.kept_replies.specs.inside.Rows.{rows_seen}
use Rattle.kept_replies.proofs.Named.{any_named}
use Rattle.kept_replies.proofs.table.Kept.is_named.Goals as goal

pub returns : goal.returns
returns c =
    let i = c.self.inside in
    any_named (rows_seen i.rows i.due) i.most c.args.self.now c.self.invariant.0 c.self.view_is
    c.args.id.now c.is_told.result c.is_told.ensures
