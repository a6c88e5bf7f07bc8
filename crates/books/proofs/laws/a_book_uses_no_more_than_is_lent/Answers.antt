use Rattle.books.proofs.Spending.{book_is_fair}
use Rattle.books.proofs.laws.a_book_uses_no_more_than_is_lent.Goals as goal

pub returns-clause-units : goal.returns-clause-units
returns-clause-units c = λ base now entries run. (book_is_fair base now entries run).units

pub returns-clause-settings : goal.returns-clause-settings
returns-clause-settings c = λ base now entries run. (book_is_fair base now entries run).settings

pub returns-clause-steps : goal.returns-clause-steps
returns-clause-steps c = λ base now entries run. (book_is_fair base now entries run).steps
