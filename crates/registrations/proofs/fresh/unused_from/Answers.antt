use Rattle.std.proofs.Common.{◌≡◌, ap, subst, ◌∙◌, true, map, below_more, arith}
use Rattle.registrations.specs.Numbers.{number_of, next_number}
use Rattle.registrations.specs.Registry.{Live, IsUnused}
use Rattle.registrations.proofs.Covering.{has_number, next_tried, not_all, number_at, number_tried}
use Rattle.registrations.proofs.Covering.{used}
use Rattle.registrations.proofs.Rows.{len_numbered}
use Rattle.registrations.proofs.fresh.unused_from.Goals as goal

pub loop-tries-preserved : goal.loop-tries-preserved
loop-tries-preserved c =
    let order = c.args.table.now.order in
    let taken = c.args.taken.now in
    let tried = number_tried order taken c.numbered-id.result
    (number_at c.args.start c.loop-tries._tries)
    (c.numbered-id.ensures.number ∙ c.loop-tries.invariant.0) c.numbered-id.ensures.text
    (λ unused. cc (c.if-is_unused.ensures.1 (subst (λ (m : Live). IsUnused m taken
    c.numbered-id.result) c.len.ensures.numbered.all unused))) in (
      c.after-number.ensures ∙ (ap next_number c.loop-tries.invariant.0
          ∙ next_tried c.args.start c.loop-tries._tries (omega arith) (omega arith)),
      below_more (λ k. has_number (map number_of (used order taken)) (number_at c.args.start k)
          ≡ true) c.loop-tries._tries c.loop-tries.invariant.1 tried,
    )

pub unreachable-requires : goal.unreachable-requires
unreachable-requires c =
    let len = len_numbered c.args.table.now c.len.ensures.numbered in
    not_all c.args.table.now.order c.args.taken.now c.args.start
    (omega (arith, len, c.len.ensures.len, c.requires.few))
    (λ k below. c.loop-tries.invariant.1 k (omega (
      arith,
      len,
      below,
      c.len.ensures.len,
      c.loop-tries-test.false,
    )))
