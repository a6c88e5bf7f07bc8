use Rattle.std.proofs.Common.{◌∙◌, subst, Option, IfSome}
use Rattle.reply_queues.specs.declared.outlet.Ended.{Ended}
use Rattle.reply_queues.specs.Rings.{MarksRing}
use Rattle.server_tests.proofs.rings.two_threads.hand_over.Goals as goal

-- the mark is that of whichever inlet is the outlet's, and this one still is
pub settle-requires : goal.settle-requires
settle-requires g c =
    let ring = c.requires in
    let ends = c.join-mark in
    let same = ends.ensures.second.0 in
    let P : Option Ended → Type 0 = λ o. IfSome o (λ mark. MarksRing c.args.outlet mark) in
    record {
      own_mark = λ mark is. subst P is ends.ensures.first ends.result.1.0
          (same.0 ∙ ring.0, same.1 ∙ ring.1, same.2 ∙ ring.2, same.3 ∙ ring.3);
    }
