use Rattle.std.proofs.Common.{◌≡◌, ◌∙◌, ap, arith, set, subst}
use Rattle.std.specs.Option.{IsSomeAnd}
use Rattle.std.specs.FinMap as map
use Rattle.std.proofs.lemmas.List.{get_or_read}
use Rattle.keyed.proofs.Searches.{place_below}
use Rattle.deadlines.specs.declared.due.Due.{Due}
use Rattle.deadlines.specs.inside.Heap.{moments_of}
use Rattle.deadlines.proofs.Indexed.{moments_changed, none_due, place_of, row, stands}
use Rattle.deadlines.proofs.Indexed.{written_back}
use Rattle.deadlines.proofs.table.Deadlines.set.Goals as goal

pub returns-in-Some-clause-moments : goal.returns-in-Some-clause-moments
returns-in-Some-clause-moments c =
    let rows = c.self.inside.rows.items in
    let i = c.in-Some.i in
    let there = rw c.deref.ensures.value at c.in-Some.ensures in
    let below = place_below place_of c.args.place rows i there in
    let read = get_or_read rows i c.index_mut.result.now below c.index_mut.ensures.value none_due in
    let here = stands rows i below in
    let own : (row rows i).place ≡ c.args.place =
    subst (λ o. IsSomeAnd o (λ (r : Due). r.place ≡ c.args.place)) here there in
    ap moments_of (written_back c.settle.new.rows _ c.self.inside.rows.len (omega arith))
    ∙ (c.settle.ensures.moments
    ∙ (ap moments_of c.deref_mut.ensures.value
    ∙ (ap (λ (r : Due). moments_of (set rows i (record r { moment = c.args.moment }))) read
    ∙ (moments_changed rows c.self.inside.at.items i (row rows i) c.args.moment
    c.self.invariant.indexed here
    ∙ (λ j. map.insert (c.self.view_is j).moments (own j) c.args.moment)))))
