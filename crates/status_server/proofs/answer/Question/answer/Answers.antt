use Rattle.hyper.specs.Response.{body_of, head_of}
use Rattle.status_server.proofs.Sent.{IsAnswered-parts}
use Rattle.status_server.proofs.answer.Question.answer.Goals as goal

pub returns : goal.returns
returns g c =
    let self = c.args.self in
    let of = rw c.deref.ensures at c.in_ok-response.ensures.answered in
    let sent = c.as_hyper in
    IsAnswered-parts sent.result (λ sent. (head_of sent).status) (λ sent. (head_of sent).headers) (λ sent. (body_of sent).buf)
    (g.V.View.answers self.view.value self.asked) c.in_ok-response.response of sent.ensures.status sent.ensures.fields sent.ensures.body
