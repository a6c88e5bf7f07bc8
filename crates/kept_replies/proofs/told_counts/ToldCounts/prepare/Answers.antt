use Rattle.std.proofs.Common.{ℕ, List, ap, ◌∙◌, subst, sym}
use Rattle.std.specs.Map.{lookup}
use Rattle.kept_replies.specs.inside.Told.{AreTold, ToldTable, count_of, same_id}
use Rattle.kept_replies.proofs.told_counts.ToldCounts.prepare.Goals as goal
use Rattle.kept_replies.proofs.told_counts.ToldCounts.prepare.Goals.{then-not-self, else-not-self}

pub returns : goal.returns
returns c whole id =
    ap (λ (es : List (List ℕ × ℕ)). count_of (lookup (same_id id) es))
    c.reserve-room.ensures.entries
    ∙ (elim c.if-not-self.branch [
      | then-not-self w ↦
          let told = subst (λ (t : ToldTable). AreTold c.args.rows.now.entries t)
          (sym w.drop.view_is) w.of.ensures in
          rw w.self-inside-is (told (rw w.self-inside-is at whole) id)
      | else-not-self w ↦
          let told = subst (λ (t : ToldTable). AreTold c.args.rows.now.entries t)
          (sym c.self.view_is) c.requires in
          rw w.self-inside-is (told (rw w.self-inside-is at whole) id)
    ])
