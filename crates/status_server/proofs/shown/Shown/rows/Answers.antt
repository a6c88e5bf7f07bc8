use Rattle.status_server.proofs.Answered.{IsAnswerOf-copy}
use Rattle.status_server.proofs.shown.Shown.rows.Goals as goal

pub keep_rows-requires : goal.keep_rows-requires
keep_rows-requires g c =
    let self = c.args.self.now in
    let copy = c.in_ok-copy in
    ∣ IsAnswerOf-copy g.Z.RunningZone self.zone.now self.about c.args.asked copy.copy c.in_ok-response-2.response (copy.ensures.status, copy.ensures.content, copy.ensures.text) c.in_ok-response-2.ensures ∣₁
