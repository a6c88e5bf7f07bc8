use Rattle.std.proofs.Common.{subst, sym, ◌∙◌, ◌+◌, ℕ, Option, Some}
use Rattle.indexmap.specs.IndexMap.{Updates}
use Rattle.kept_replies.specs.inside.Told.{count_of, same_id}
use Rattle.kept_replies.proofs.ToldTimes.{on_ok}
use Rattle.kept_replies.proofs.told_counts.raise.Goals as goal

pub returns-then-len-capacity-clause-raised : goal.returns-then-len-capacity-clause-raised
returns-then-len-capacity-clause-raised c ok =
    let id = c.args.id.now in
    subst (λ (w : Option ℕ). Updates same_id c.args.counts.now c.insert.new.self id
    (Some (count_of w + 1))) c.in_default.ensures.value
    (on_ok c.insert.result (Updates same_id c.args.counts.now c.insert.new.self id (Some 1))
    (rw c.get_mut.follows.holds-at-none at c.insert.ensures.updates)
    (sym c.is_ok.ensures.value ∙ ok))
