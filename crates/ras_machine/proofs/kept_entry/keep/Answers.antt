use Rattle.std.proofs.Common.{◌∙◌, ap, subst, sym, None}
use Rattle.std.specs.FinMap as fin
use Rattle.kept_replies.specs.Kept.{KeptReplies, IsFreeBirth}
use Rattle.ras_machine.specs.inside.Room.{IsPlaced}
use Rattle.ras_machine.proofs.Dropping.{is_free, none_after_drop}
use Rattle.ras_machine.proofs.kept_entry.keep.Goals as goal

pub add-requires-clause-new : goal.add-requires-clause-new
add-requires-clause-new c =
    ap (λ (k : KeptReplies). fin.get k c.args.job.key) c.drop_entry.ensures.kept
    ∙ none_after_drop c.args.kept.now.kept c.in-First.dropped c.args.job.key
    (subst (IsPlaced c.args.kept.now c.args.job.key) c.in-First.is c.requires.place).0

pub add-requires-clause-birth : goal.add-requires-clause-birth
add-requires-clause-birth c =
    subst (λ (k : KeptReplies). IsFreeBirth k c.args.job.key c.args.born)
    (sym c.drop_entry.ensures.kept)
    (is_free c.args.kept.now.kept c.args.born c.requires.births c.in-First.dropped c.args.job.key)

pub keep-requires-clause-birth : goal.keep-requires-clause-birth
keep-requires-clause-birth c =
    is_free c.args.kept.now.kept c.args.born c.requires.births None c.args.job.key

pub pend-requires-clause-birth : goal.pend-requires-clause-birth
pend-requires-clause-birth c =
    is_free c.args.kept.now.kept c.args.born c.requires.births None c.args.job.key
