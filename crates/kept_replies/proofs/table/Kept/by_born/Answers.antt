use Rattle.std.proofs.Common.{ap, ◌∙◌, Some, None}
use Rattle.std.specs.Option.{option_map}
use Rattle.std.specs.Map.Iter.{deref_pair}
use Rattle.kept_replies.specs.inside.Rows.{rows_seen}
use Rattle.kept_replies.proofs.Births.{row_born}
use Rattle.kept_replies.proofs.StoredKept.{IsConsistent-stored}
use Rattle.kept_replies.proofs.table.Kept.by_born.Goals as goal

pub returns-in_err-place-clause-found : goal.returns-in_err-place-clause-found
returns-in_err-place-clause-found c =
    let i = c.self.inside in
    ap (option_map deref_pair) c.from_residual.ensures
    ∙ row_born (rows_seen i.rows i.due) i.most c.args.self.now c.self.invariant.0 c.self.view_is
    c.args.born None c.in_err-place.ensures

pub returns-clause-found : goal.returns-clause-found
returns-clause-found c =
    let i = c.self.inside in
    c.get_index.ensures.entry
    ∙ row_born (rows_seen i.rows i.due) i.most c.args.self.now c.self.invariant.0 c.self.view_is
    c.args.born (Some c.in_ok-place.place) c.in_ok-place.ensures

pub returns-in_err-place-clause-sound : goal.returns-in_err-place-clause-sound
returns-in_err-place-clause-sound c =
    let i = c.self.inside in
    IsConsistent-stored (rows_seen i.rows i.due) i.most c.args.self.now c.self.invariant.0
    c.self.view_is

pub returns-clause-sound : goal.returns-clause-sound
returns-clause-sound c =
    let i = c.self.inside in
    IsConsistent-stored (rows_seen i.rows i.due) i.most c.args.self.now c.self.invariant.0
    c.self.view_is
