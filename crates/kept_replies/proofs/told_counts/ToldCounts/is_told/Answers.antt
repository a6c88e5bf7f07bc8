use Rattle.std.proofs.Common.{ap, ◌∙◌, refl}
use Rattle.std.specs.Prelude.{nat_lt}
use Rattle.kept_replies.specs.inside.Told.{times}
use Rattle.kept_replies.proofs.ToldTimes.{some_tell}
use Rattle.kept_replies.proofs.told_counts.ToldCounts.is_told.Goals as goal

pub returns-in-Some : goal.returns-in-Some
returns-in-Some c =
    let id = c.args.id.now in
    let found = c.in-Some.ensures in
    ap (nat_lt 0) (c.times_of.ensures ∙ (ap (λ t. times t c.in-Some.key) c.self.view_is
    ∙ (ap (times c.args.self.now) found.key ∙ c.requires (found.whole refl) id)))
    ∙ some_tell id c.args.rows.now.entries
