use Rattle.std.proofs.Common.{◌≡◌, Some}
use Rattle.std.specs.FinMap as map
use Rattle.admission.specs.Calls.{with_units}
use Rattle.admission.proofs.CountedCalls.{AreCounted-set_units}
use Rattle.admission.proofs.KeptSums.{part_of_total, part_of_sum, raised_total, raised_sum}
use Rattle.admission.proofs.StoredCalls.{open_of, stored_call, Becomes-update}
use Rattle.admission.proofs.table.Calls.set_units.Goals as goal

there : (c : goal.After-take-arg-1)
    → map.get (open_of c.self.inside.calls) c.args.key.now ≡ Some c.in-Some.call.now
there c = stored_call c.self.inside.calls c.write_units.new.calls c.args.key.now c.self.inside.most
    c.args.self.now c.self.view_is c.in-Some.call.now c.in-Some.ensures.found

pub take-requires-clause-total : goal.take-requires-clause-total
take-requires-clause-total c = part_of_total (open_of c.self.inside.calls) c.args.key.now
    c.self.inside.in_use c.self.invariant.sums c.in-Some.call.now (there c)

pub take-requires-clause-pool : goal.take-requires-clause-pool
take-requires-clause-pool c = part_of_sum (open_of c.self.inside.calls) c.args.key.now
    c.self.inside.in_use c.self.invariant.sums c.in-Some.call.now (there c)

pub add-requires-clause-total : goal.add-requires-clause-total
add-requires-clause-total c = raised_total c.self.inside.calls c.self.inside.most
    c.self.invariant.stored c.self.inside.in_use c.self.invariant.sums c.take.new.self
    c.in-Some.call.now.pool c.in-Some.call.now.units c.args.units c.take.ensures c.ranges.units.fits

pub add-requires-clause-pool : goal.add-requires-clause-pool
add-requires-clause-pool c = raised_sum c.self.inside.calls c.self.inside.most
    c.self.invariant.stored c.self.inside.in_use c.self.invariant.sums c.take.new.self
    c.in-Some.call.now.pool c.in-Some.call.now.units c.args.units c.take.ensures c.ranges.units.fits

pub invariant_of-self : goal.invariant_of-self
invariant_of-self c =
    let old = c.self.inside.calls in
    let new = c.write_units.new.calls in
    let call = c.in-Some.call.now in
    let is = stored_call old new c.args.key.now c.self.inside.most c.args.self.now c.self.view_is
    call c.in-Some.ensures.found in
    AreCounted-set_units old new c.self.inside.most c.self.inside.in_use
    c.self.invariant c.args.key.now call is c.take.new.self c.add.new.self c.args.units
    c.ranges.units.fits c.write_units.ensures c.take.ensures c.add.ensures

pub returns-clause-ok : goal.returns-clause-ok
returns-clause-ok c =
    Becomes-update c.self.inside.calls c.write_units.new.calls c.args.key.now c.self.inside.most
    c.args.self.now c.self.view_is (invariant_of-self c).stored
    (with_units c.args.units) c.write_units.ensures
    c.in-Some.call.now c.in-Some.ensures.found
