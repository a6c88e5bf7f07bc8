use Rattle.std.proofs.Common.{sym, subst, refl, ℕ, Option}
use Rattle.std.specs.Prelude.{MatchOption}
use Rattle.kept_replies.specs.inside.Due.{NoneCame, Came}
use Rattle.kept_replies.proofs.Moments.{none_among}
use Rattle.kept_replies.proofs.due_moments.place_due.Goals as goal

pub returns-in_err-moment : goal.returns-in_err-moment
returns-in_err-moment c =
    let moments = c.args.deadlines.now.moments in
    subst (λ (w : Option ℕ). MatchOption w (NoneCame c.args.now moments) (Came c.args.now moments))
    (sym c.from_residual.ensures)
    (none_among moments c.args.now (c.in_err-moment.ensures.none.0 refl))
