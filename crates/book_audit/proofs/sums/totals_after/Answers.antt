use Rattle.std.proofs.Common.{arith, ap}
use Rattle.books.specs.declared.totals.Totals.{Totals}
use Rattle.book_audit.proofs.EntrySums.{counts}
use Rattle.book_audit.proofs.sums.totals_after.Goals as goal

pub overflow_add-result : goal.overflow_add-result
overflow_add-result c = omega (
  arith,
  counts c.args.entries.now,
  ap (λ (t : Totals). t.datagrams) c.totals_of-more.ensures.totals,
)

pub overflow_add-result-2 : goal.overflow_add-result-2
overflow_add-result-2 c = omega (
  arith,
  counts c.args.entries.now,
  ap (λ (t : Totals). t.turns) c.totals_of-more.ensures.totals,
)

pub overflow_add-result-4 : goal.overflow_add-result-4
overflow_add-result-4 c = omega (
  arith,
  counts c.args.entries.now,
  ap (λ (t : Totals). t.changes) c.totals_of-more.ensures.totals,
)

pub returns-clause-steps : goal.returns-clause-steps
returns-clause-steps c = omega (
  arith,
  counts c.args.entries.now,
  ap (λ (t : Totals). t.datagrams) c.totals_of-more.ensures.totals,
  ap (λ (t : Totals). t.turns) c.totals_of-more.ensures.totals,
  ap (λ (t : Totals). t.changes) c.totals_of-more.ensures.totals,
)

pub returns-clause-units : goal.returns-clause-units
returns-clause-units c = omega (
  arith,
  counts c.args.entries.now,
  ap (λ (t : Totals). t.datagrams) c.totals_of-more.ensures.totals,
  ap (λ (t : Totals). t.turns) c.totals_of-more.ensures.totals,
  ap (λ (t : Totals). t.changes) c.totals_of-more.ensures.totals,
)
