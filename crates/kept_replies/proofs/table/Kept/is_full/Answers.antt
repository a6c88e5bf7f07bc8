use Rattle.std.proofs.Common.{sym, ap, ◌∙◌}
use Rattle.std.proofs.lemmas.Bool.Decides.{Decides-eqb}
use Rattle.kept_replies.specs.inside.Rows.{rows_seen}
use Rattle.kept_replies.proofs.StoredKept.{IsConsistent-stored, len_stored}
use Rattle.kept_replies.proofs.table.Kept.is_full.Goals as goal

pub returns-clause-full : goal.returns-clause-full
returns-clause-full c =
    let i = c.self.inside in
    let len = c.len.ensures.len
    ∙ sym (len_stored (rows_seen i.rows i.due) i.most c.args.self.now c.self.invariant.0
    c.self.view_is) in
    let test = Decides-eqb c.len.result i.most in
    let most = ap (λ t. t.most) c.self.view_is in (
      λ h. sym len ∙ (test.0 h ∙ most),
      λ e. test.1 (len ∙ (e ∙ sym most)),
    )

pub returns-clause-sound : goal.returns-clause-sound
returns-clause-sound c =
    let i = c.self.inside in
    IsConsistent-stored (rows_seen i.rows i.due) i.most c.args.self.now c.self.invariant.0
    c.self.view_is
