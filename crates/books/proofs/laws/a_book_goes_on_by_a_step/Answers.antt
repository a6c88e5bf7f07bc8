use Rattle.books.proofs.Entries.{counted_more, run_more}
use Rattle.books.proofs.laws.a_book_goes_on_by_a_step.Goals as goal

pub returns-clause-run : goal.returns-clause-run
returns-clause-run c = run_more

pub returns-clause-counted : goal.returns-clause-counted
returns-clause-counted c = counted_more
