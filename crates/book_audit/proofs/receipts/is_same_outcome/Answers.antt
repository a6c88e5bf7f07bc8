use Rattle.std.proofs.Common.{sym, ◌∙◌}
use Rattle.step_check.proofs.Outcomes.{outcomes_decide}
use Rattle.book_audit.proofs.receipts.is_same_outcome.Goals as goal

pub returns : goal.returns
returns c =
    let d = outcomes_decide c.args.a.now c.args.b.now in
    (λ h. d.0 (sym c.eq.ensures ∙ h), λ e. c.eq.ensures ∙ d.1 e)
