use Rattle.kept_replies.specs.inside.Rows.{rows_seen}
use Rattle.kept_replies.proofs.Named.{all_named}
use Rattle.kept_replies.proofs.table.Kept.identifiers.Goals as goal

pub returns : goal.returns
returns c =
    let i = c.self.inside in
    all_named (rows_seen i.rows i.due) i.most c.args.self.now c.self.invariant.0 c.self.view_is
    (λ ids. ids.items) c.identifiers_in.result
    c.identifiers_in.ensures
