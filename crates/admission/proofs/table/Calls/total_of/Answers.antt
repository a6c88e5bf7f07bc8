use Rattle.std.proofs.Common.{sym, ◌∙◌, ap, arith}
use Rattle.std.proofs.lemmas.Option.{get_or_from_slice_get, slice_get_within}
use Rattle.admission.specs.Calls.{units_from, in_use_of}
use Rattle.admission.proofs.StoredCalls.{sum_stored, sum_bound, units_below}
use Rattle.admission.proofs.table.Calls.total_of.Goals as goal

pub returns-in-Some-clause-sum : goal.returns-in-Some-clause-sum
returns-in-Some-clause-sum c =
    let sums = c.self.inside.in_use.by_pool in
    let there = sym c.in-Some.ensures in
    sym (get_or_from_slice_get sums c.args.pool c.in-Some.units.now 0 there)
    ∙ (c.self.invariant.sums.pools c.args.pool
    (slice_get_within sums c.args.pool c.in-Some.units.now there)
    ∙ ap (λ t. in_use_of t.calls c.args.pool) c.self.view_is)

pub returns-in-Some-clause-bound : goal.returns-in-Some-clause-bound
returns-in-Some-clause-bound c =
    omega (
      arith,
      returns-in-Some-clause-sum c,
      sum_bound c.self.inside.calls c.self.inside.most c.args.self.now c.self.invariant.stored
          c.self.view_is (units_from c.args.pool) (units_below c.args.pool),
    )

pub returns-in-None-clause-sum : goal.returns-in-None-clause-sum
returns-in-None-clause-sum c = c.units_of_pool.ensures
    ∙ sum_stored c.self.inside.calls c.self.inside.most c.args.self.now c.self.invariant.stored
    c.self.view_is (units_from c.args.pool)

pub returns-in-None-clause-bound : goal.returns-in-None-clause-bound
returns-in-None-clause-bound c =
    omega (
      arith,
      returns-in-None-clause-sum c,
      sum_bound c.self.inside.calls c.self.inside.most c.args.self.now c.self.invariant.stored
          c.self.view_is (units_from c.args.pool) (units_below c.args.pool),
    )
