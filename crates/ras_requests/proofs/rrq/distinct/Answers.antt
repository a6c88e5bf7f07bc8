use Rattle.std.proofs.Common.{◌+◌, ap, sym, ◌∙◌, drop}
use Rattle.ras_module.specs.Aliases.{without_doubles}
use Rattle.ras_module.proofs.Doubles.{kept_and_new, none_kept, goes_on_with_double}
use Rattle.ras_module.proofs.Doubles.{goes_on_with_new}
use Rattle.ras_requests.proofs.rrq.distinct.Goals as goal
use Rattle.ras_requests.proofs.rrq.distinct.Goals.{then-not-has+else-len-eq-MOST+in_ok-push}
use Rattle.ras_requests.proofs.rrq.distinct.Goals.{else-not-has}

pub loop-alias-init : goal.loop-alias-init
loop-alias-init c =
    ap (λ kept. kept_and_new kept c.as_slice-alias-items.result.now)
    (c.from_vec-kept.ensures ∙ c.in_ok-with_capacity.ensures.items)
    ∙ (none_kept c.as_slice-alias-items.result.now
    ∙ ap without_doubles c.as_slice-alias-items.ensures)

pub loop-alias-preserved : goal.loop-alias-preserved
loop-alias-preserved c =
    let items = c.as_slice-alias-items.result.now in
    let i = c.loop-alias.alias-index in
    let x = c.alias-item.result in
    let kept = c.loop-alias.kept in
    elim c.if-not-has.branch [
      | then-not-has+else-len-eq-MOST+in_ok-push w ↦
          ap (λ k. kept_and_new k (drop (i + 1) items)) (w.kept-is ∙ w.in_ok-push.ensures.ok)
          ∙ goes_on_with_new items i x kept (without_doubles c.args.aliases.now)
          c.loop-alias-test.true c.alias-item.is (sym c.has.ensures ∙ w.if-not-has.true)
          c.loop-alias.invariant
      | else-not-has w ↦
          ap (λ k. kept_and_new k (drop (i + 1) items)) w.kept-is
          ∙ goes_on_with_double items i x kept (without_doubles c.args.aliases.now)
          c.loop-alias-test.true c.alias-item.is (sym c.has.ensures ∙ w.if-not-has.false)
          c.loop-alias.invariant
    ]
