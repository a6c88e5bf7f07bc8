use Rattle.kept_replies.proofs.Births.{busy}
use Rattle.kept_replies.proofs.table.Kept.is_busy.Goals as goal

pub returns-then-is_full : goal.returns-then-is_full
returns-then-is_full c =
    busy c.args.self.now c.is_full.ensures.sound c.args.now c.over.result c.is_none.result
    (c.is_full.ensures.full.0 c.if-is_full.true) c.over.ensures.found c.is_none.ensures

pub returns-else-is_full : goal.returns-else-is_full
returns-else-is_full c = (
  λ h. absurd (cc (c.if-is_full.false, h)),
  λ b. absurd (cc (c.if-is_full.false, c.is_full.ensures.full.1 b.full)),
)
