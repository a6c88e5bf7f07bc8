use Rattle.std.proofs.Common.{subst, sym}
use Rattle.status_page.specs.declared.overview.Overview.{Overview}
use Rattle.status_server.specs.Shown.{IsOverviewOf}
use Rattle.status_server.proofs.Sited.{holds_of-it}
use Rattle.status_server.proofs.shown.Shown.last_overview.Goals as goal

pub returns-in-Some : goal.returns-in-Some
returns-in-Some g c =
    let self = c.args.self.now in
    let told = c.in-Some.told in
    let IsTold : Overview → Type 0 = λ overview. ∥ IsOverviewOf g.Z.RunningZone self.zone.now overview ∥₁ in
    subst IsTold (sym c.in_ok-clone-in-Some.ensures.cases)
    (holds_of-it g.S.Site.site (self.about, self.zone.now) (λ site. IsOverviewOf g.Z.RunningZone site.1 told.overview.value) self.is_site told.is_told)
