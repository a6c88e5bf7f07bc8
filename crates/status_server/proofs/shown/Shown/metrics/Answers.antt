use Rattle.std.proofs.Common.{subst, sym}
use Rattle.std.proofs.lemmas.Result.{IfOk-weaker}
use Rattle.status_page.specs.Metrics.{metrics_of}
use Rattle.status_page.specs.declared.overview.Overview.{Overview}
use Rattle.status_page.specs.declared.response.Content.TheVariants.{Metrics}
use Rattle.status_server.specs.Shown.{IsMetricsOf, IsOverviewOf, IsPage}
use Rattle.status_server.proofs.Paged.{IsPage-parts}
use Rattle.status_server.proofs.shown.Shown.metrics.Goals as goal

pub returns : goal.returns
returns g c =
    let tells = g.Z.RunningZone in
    let zone = c.args.self.now.zone.now in
    let about = c.args.self.now.about in
    let overview = c.deref.result.now in
    let text = metrics_of about overview in
    let IsTold : Overview → Type 0 = λ overview. ∥ IsOverviewOf tells zone overview ∥₁ in
    let told = subst IsTold (sym c.deref.ensures) c.in_ok-overview.ensures in
    IfOk-weaker c.metrics.result (IsPage Metrics text) (IsMetricsOf tells zone about)
    (λ page is. (overview, told, is))
    (IsPage-parts c.metrics.result Metrics text c.metrics.ensures.found c.metrics.ensures.content c.metrics.ensures.text)
