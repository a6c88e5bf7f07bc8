use Rattle.status_server.specs.Shown.{IsAnswerOf}
use Rattle.status_server.proofs.Sited.{holds_of-site}
use Rattle.status_server.proofs.shown.Shown.keep_rows.Goals as goal

pub invariant_of-listed : goal.invariant_of-listed
invariant_of-listed g c =
    let self = c.args.self.now in
    record { is_answer = holds_of-site g.S.Site.site (self.about, self.zone.now) (λ site. IsAnswerOf g.Z.RunningZone site.1 site.0 c.args.asked c.args.response) self.is_site c.requires }
