use Rattle.std.proofs.Common.{refl, ◌∙◌}
use Rattle.registrations.specs.inside.Stored.{IsIn}
use Rattle.registrations.proofs.Walks.{Walks-first, Walks-next, row_of_step, all_passed}
use Rattle.registrations.proofs.table.Registrations.has_all.Goals as goal

pub loop-place-init : goal.loop-place-init
loop-place-init c = (
  tt,
  tt,
  Walks-first c.args.rows.now (IsIn c.args.self.now.live) c.into_iter-place-iterator.result
      (c.into_iter-place-iterator.ensures.into_iter_gives ∙ c.iter-place-items.ensures.rest),
)

pub returns-then-not-has : goal.returns-then-not-has
returns-then-not-has c = (
  λ h. absurd (cc h),
  λ all. c.if-not-has.ensures.1 (all c.in-Some._place c.in-Some.row.now
      (row_of_step c.args.rows.now (IsIn c.args.self.now.live) c.loop-place._place-iterator
      c.next.new.self c.in-Some._place c.in-Some.row.now c.loop-place.invariant.2
      c.in-Some.ensures.steps)),
)

pub loop-place-preserved : goal.loop-place-preserved
loop-place-preserved c = (
  tt,
  tt,
  Walks-next c.args.rows.now (IsIn c.args.self.now.live) c.loop-place._place-iterator
      c.next.new.self c.in-Some._place c.in-Some.row.now c.loop-place.invariant.2
      c.in-Some.ensures.steps (c.if-not-has.ensures.0 refl),
)

pub returns : goal.returns
returns c = (
  λ h. all_passed c.args.rows.now (IsIn c.args.self.now.live) c.loop-place._place-iterator
      c.in-None.ensures.steps.0 c.loop-place.invariant.2,
  λ all. refl,
)
