use Rattle.std.proofs.Common.{ℕ, Option, None, subst, sym}
use Rattle.std.specs.Prelude.{MatchOption}
use Rattle.kept_replies.specs.Kept.{is_retry, is_retry_in, NonePasses, Passes}
use Rattle.kept_replies.specs.inside.Due.{retry_in}
use Rattle.kept_replies.specs.inside.Rows.{rows_seen}
use Rattle.kept_replies.proofs.Births.{search_born}
use Rattle.kept_replies.proofs.DueRows.{none_due, one_due, retry_fails, retry_passes}
use Rattle.kept_replies.proofs.StoredKept.{IsConsistent-stored}
use Rattle.kept_replies.proofs.table.Kept.retry.Goals as goal

pub returns-in_err-place-clause-found : goal.returns-in_err-place-clause-found
returns-in_err-place-clause-found c =
    let i = c.self.inside in
    subst (λ (w : Option ℕ). MatchOption w (NonePasses (is_retry c.args.now) c.args.self.now.kept)
    (Passes (is_retry c.args.now) c.args.self.now.kept)) (sym c.from_residual.ensures)
    (search_born (rows_seen i.rows i.due) i.most c.args.self.now c.self.invariant.0 c.self.view_is
    (is_retry c.args.now) None
    (none_due retry_in (is_retry_in c.args.now) c.args.now (retry_fails c.args.now)
    (retry_passes c.args.now) i.rows.entries i.due.retries c.self.invariant.1.timed.retries
    c.in_err-place.ensures))

pub returns-clause-found : goal.returns-clause-found
returns-clause-found c =
    let i = c.self.inside in
    search_born (rows_seen i.rows i.due) i.most c.args.self.now c.self.invariant.0 c.self.view_is
    (is_retry c.args.now) c.born_at.result
    (one_due retry_in (is_retry_in c.args.now) c.args.now (retry_fails c.args.now)
    (retry_passes c.args.now) i.rows.entries i.due.retries c.self.invariant.1.timed.retries
    c.in_ok-place.place c.born_at.result c.in_ok-place.ensures c.born_at.ensures)

pub returns-in_err-place-clause-sound : goal.returns-in_err-place-clause-sound
returns-in_err-place-clause-sound c =
    let i = c.self.inside in
    IsConsistent-stored (rows_seen i.rows i.due) i.most c.args.self.now c.self.invariant.0
    c.self.view_is

pub returns-clause-sound : goal.returns-clause-sound
returns-clause-sound c =
    let i = c.self.inside in
    IsConsistent-stored (rows_seen i.rows i.due) i.most c.args.self.now c.self.invariant.0
    c.self.view_is
