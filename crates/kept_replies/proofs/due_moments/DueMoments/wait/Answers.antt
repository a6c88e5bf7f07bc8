use Rattle.kept_replies.proofs.Moments.{Writes-retry}
use Rattle.kept_replies.proofs.due_moments.DueMoments.wait.Goals as goal

pub returns : goal.returns
returns c =
    let i = c.self.inside in
    Writes-retry i.ends.moments i.retries.moments c.clear.new.self.moments c.set.new.self.moments
    i.ends.room i.retries.room c.clear.new.self.room c.set.new.self.room c.args.self.now
    c.self.view_is c.args.place c.args.retry c.clear.ensures.room c.set.ensures.room
    c.clear.ensures.moments c.set.ensures.moments
