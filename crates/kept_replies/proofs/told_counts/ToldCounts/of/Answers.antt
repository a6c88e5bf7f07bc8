use Rattle.std.proofs.Common.{◌+◌, ℕ, List, Option, ap, ◌∙◌, arith, subst}
use Rattle.std.specs.Prelude.{IsTrue}
use Rattle.std.specs.Map.{lookup}
use Rattle.kept_replies.specs.inside.Told.{ToldTable, count_of, once, same_id, times, times_in}
use Rattle.kept_replies.proofs.ToldTimes.{times_next}
use Rattle.kept_replies.proofs.told_counts.ToldCounts.of.Goals as goal

pub loop-key-init : goal.loop-key-init
loop-key-init c whole id =
    let whole_before = subst IsTrue (ap (λ (t : ToldTable). t.is_whole) c.all.view_is) whole in
    omega (
      arith,
      ap (λ (es : List (List ℕ × ℕ)). count_of (lookup (same_id id) es))
          c.reserve-room.ensures.entries,
      ap (λ (t : ToldTable). times t id) c.all.view_is,
      c.new-all.ensures whole_before id,
      ap (λ rows. times_in rows id) c.into_iter-key-iterator.ensures.into_iter_gives,
      ap (λ rows. times_in rows id) c.iter-key-items.ensures.rest,
    )

pub loop-key-preserved : goal.loop-key-preserved
loop-key-preserved c whole id =
    let told = c.add.ensures.times whole id
    ∙ ap (λ (w : Option (List ℕ)). times c.loop-key.all id + once w id) c.identifier.ensures in
    omega (
      arith,
      told,
      times_next id c.loop-key._key-iterator c.next.new.self
          (c.in-Some._key.now, c.in-Some.entry.now) c.in-Some.ensures.steps,
      c.loop-key.invariant (c.add.ensures.still whole) id,
    )
