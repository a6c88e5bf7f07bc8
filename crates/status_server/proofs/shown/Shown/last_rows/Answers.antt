use Rattle.std.proofs.Common.{subst}
use Rattle.std.proofs.Math.Logic.{∥∥₁_map}
use Rattle.status_page.specs.declared.asked.Asked.{Asked}
use Rattle.status_server.specs.Shown.{IsAnswerOf}
use Rattle.status_server.proofs.Answered.{IsAnswerOf-copy}
use Rattle.status_server.proofs.SameAsked.{same_asked}
use Rattle.status_server.proofs.Sited.{holds_of-it}
use Rattle.status_server.proofs.shown.Shown.last_rows.Goals as goal

pub returns-in-Some : goal.returns-in-Some
returns-in-Some g c =
    let tells = g.Z.RunningZone in
    let self = c.args.self.now in
    let zone = self.zone.now in
    let listed = c.in-Some.listed in
    let copy = c.in_ok-copied-in-Some in
    let same = same_asked c.eq.result listed.asked c.args.asked.now c.eq.ensures c.if-eq.true in
    let kept = holds_of-it g.S.Site.site (self.about, zone) (λ site. IsAnswerOf tells site.1 site.0 listed.asked listed.response) self.is_site listed.is_answer in
    let IsAnswer : Asked → Type 0 = λ asked. ∥ IsAnswerOf tells zone self.about asked copy.field-0 ∥₁ in
    subst IsAnswer same (∥∥₁_map kept (IsAnswerOf-copy tells zone self.about listed.asked copy.field-0 listed.response (copy.ensures.status, copy.ensures.content, copy.ensures.text)))
