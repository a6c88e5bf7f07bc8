use Rattle.std.proofs.Common.{◌≡◌, List, length, Some, ap, arith, subst, sym, ◌∙◌, refl}
use Rattle.std.specs.FinMap as map
use Rattle.indexmap.specs.IndexMap.{Updates}
use Rattle.ras_module.specs.CallKeys.{same_call_key}
use Rattle.admission.specs.declared.leg.Leg.{Leg}
use Rattle.admission.specs.Calls.{new_call}
use Rattle.admission.proofs.CountedCalls.{AreCounted-same, AreCounted-open}
use Rattle.admission.proofs.KeptSums.{small_total, small_sum}
use Rattle.admission.proofs.StoredCalls.{get_call, longer_by_one, Adds-open, full_stored}
use Rattle.admission.proofs.table.Calls.open.Goals as goal

pub add-requires-clause-total : goal.add-requires-clause-total
add-requires-clause-total c =
    omega (
      arith,
      small_total c.self.inside.calls c.self.inside.most c.self.invariant.stored
          c.self.inside.in_use c.self.invariant.sums,
      c.ranges.units.fits,
    )

pub add-requires-clause-pool : goal.add-requires-clause-pool
add-requires-clause-pool c below =
    omega (
      arith,
      small_sum c.self.inside.calls c.self.inside.most c.self.invariant.stored
          c.self.inside.in_use c.self.invariant.sums c.args.pool below,
      c.ranges.units.fits,
    )

opened : (c : goal.After-add) → Updates same_call_key c.self.inside.calls c.insert.new.self
    c.args.key (Some (new_call c.args.pool c.args.units c.args.leg))
opened c =
    subst (λ (legs : List Leg). Updates same_call_key c.self.inside.calls c.insert.new.self
    c.args.key (Some (record { pool = c.args.pool; units = c.args.units; legs = legs })))
    c.one.ensures c.in-Ok.ensures.updates

pub invariant_of-self : goal.invariant_of-self
invariant_of-self c =
    let old = c.self.inside.calls in
    let new = c.insert.new.self in
    let absent = ap (λ t. map.get t.calls c.args.key) c.self.view_is ∙ c.requires in
    let longer = longer_by_one c.in-Ok.field-0 (length new.entries) (length old.entries)
    c.in-Ok.ensures.len (c.in-Ok.ensures.old ∙ (get_call old c.args.key ∙ absent)) in
    AreCounted-open old new c.self.inside.most c.self.inside.in_use c.self.invariant
    c.args.key c.add.new.self c.args.pool c.args.units c.args.leg absent
    c.ranges.units.fits (λ e. c.if-len-self.false (c.len.ensures.len ∙ e))
    c.in-Ok.ensures.unique (opened c) longer c.add.ensures

pub invariant_of-self-in-Err : goal.invariant_of-self-in-Err
invariant_of-self-in-Err c = AreCounted-same c.self.inside.calls c.insert.new.self
    c.self.inside.most c.self.inside.in_use c.self.invariant
    c.in-Err.ensures.err

pub returns-in-Ok-clause-ok : goal.returns-in-Ok-clause-ok
returns-in-Ok-clause-ok c =
    Adds-open c.self.inside.calls c.insert.new.self c.args.key c.self.inside.most
    c.args.self.now c.self.view_is (invariant_of-self c).stored
    (new_call c.args.pool c.args.units c.args.leg) (opened c) c.in-Ok.ensures.spare

full : (c : goal.Then-len-self) → map.len c.args.self.now.calls ≡ c.args.self.now.most
full c = (full_stored c.self.inside.calls c.self.inside.most c.args.self.now
    c.self.invariant.stored c.self.view_is).1 (sym c.len.ensures.len ∙ c.if-len-self.true)

pub returns-then-len-self-clause-full : goal.returns-then-len-self-clause-full
returns-then-len-self-clause-full c = (λ e. full c, λ h. refl)

pub returns-then-len-self-clause-other : goal.returns-then-len-self-clause-other
returns-then-len-self-clause-other c = λ differ. absurd (differ (full c))

pub returns-in-Ok-clause-full : goal.returns-in-Ok-clause-full
returns-in-Ok-clause-full c = (
  λ e. absurd (cc e),
  λ h. absurd (c.if-len-self.false (c.len.ensures.len
      ∙ (full_stored c.self.inside.calls c.self.inside.most c.args.self.now
      c.self.invariant.stored c.self.view_is).0 h)),
)

pub returns-in-Err-clause-full : goal.returns-in-Err-clause-full
returns-in-Err-clause-full c = (
  λ e. absurd (cc e),
  λ h. absurd (c.if-len-self.false (c.len.ensures.len
      ∙ (full_stored c.self.inside.calls c.self.inside.most c.args.self.now
      c.self.invariant.stored c.self.view_is).0 h)),
)
