use Rattle.books.proofs.Spending.{step_is_fair}
use Rattle.books.proofs.laws.a_step_uses_no_more_than_is_lent.Goals as goal

pub returns-clause-units : goal.returns-clause-units
returns-clause-units c = λ s event outcome after step.
    (step_is_fair s event outcome after step).units

pub returns-clause-settings : goal.returns-clause-settings
returns-clause-settings c =
    λ s event outcome after step. (step_is_fair s event outcome after step).settings

pub returns-clause-steps : goal.returns-clause-steps
returns-clause-steps c = λ s event outcome after step.
    (step_is_fair s event outcome after step).steps
