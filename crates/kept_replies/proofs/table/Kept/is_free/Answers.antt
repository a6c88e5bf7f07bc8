use Rattle.std.proofs.Common.{refl, Some, None, true}
use Rattle.kept_replies.proofs.Births.{free}
use Rattle.kept_replies.proofs.table.Kept.is_free.Goals as goal

pub returns-in-None : goal.returns-in-None
returns-in-None c =
    free c.args.self.now c.by_born.ensures.sound c.args.key.now c.args.born None true
    c.in-None.ensures.found refl

pub returns-in-Some : goal.returns-in-Some
returns-in-Some c =
    free c.args.self.now c.by_born.ensures.sound c.args.key.now c.args.born
    (Some (c.in-Some.other.now, c.in-Some._entry.now)) c.eq.result
    c.in-Some.ensures.found c.eq.ensures
