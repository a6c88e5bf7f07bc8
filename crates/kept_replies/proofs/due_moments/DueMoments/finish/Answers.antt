use Rattle.kept_replies.proofs.Moments.{Writes-end}
use Rattle.kept_replies.proofs.due_moments.DueMoments.finish.Goals as goal

pub returns : goal.returns
returns c =
    let i = c.self.inside in
    Writes-end i.ends.moments i.retries.moments c.set.new.self.moments c.clear.new.self.moments
    i.ends.room i.retries.room c.set.new.self.room c.clear.new.self.room c.args.self.now
    c.self.view_is c.args.place c.args.until c.set.ensures.room c.clear.ensures.room
    c.set.ensures.moments c.clear.ensures.moments
