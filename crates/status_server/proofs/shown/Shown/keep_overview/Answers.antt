use Rattle.status_server.specs.Shown.{IsOverviewOf}
use Rattle.status_server.proofs.Sited.{holds_of-site}
use Rattle.status_server.proofs.shown.Shown.keep_overview.Goals as goal

pub invariant_of-told : goal.invariant_of-told
invariant_of-told g c =
    let self = c.args.self.now in
    record { is_told = holds_of-site g.S.Site.site (self.about, self.zone.now) (λ site. IsOverviewOf g.Z.RunningZone site.1 c.args.overview.value) self.is_site c.requires }
