use Rattle.std.proofs.Common.{subst, sym}
use Rattle.std.proofs.lemmas.Result.{IfOk-weaker}
use Rattle.status_page.specs.JsonZone.{zone_text}
use Rattle.status_page.specs.declared.overview.Overview.{Overview}
use Rattle.status_page.specs.declared.response.Content.TheVariants.{Json}
use Rattle.status_server.specs.Shown.{IsZonePageOf, IsOverviewOf, IsPage}
use Rattle.status_server.proofs.Paged.{IsPage-parts}
use Rattle.status_server.proofs.shown.Shown.zone_page.Goals as goal

pub returns : goal.returns
returns g c =
    let tells = g.Z.RunningZone in
    let zone = c.args.self.now.zone.now in
    let about = c.args.self.now.about in
    let overview = c.deref.result.now in
    let text = zone_text about overview in
    let IsTold : Overview → Type 0 = λ overview. ∥ IsOverviewOf tells zone overview ∥₁ in
    let told = subst IsTold (sym c.deref.ensures) c.in_ok-overview.ensures in
    IfOk-weaker c.zone_json.result (IsPage Json text) (IsZonePageOf tells zone about)
    (λ page is. (overview, told, is))
    (IsPage-parts c.zone_json.result Json text c.zone_json.ensures.found c.zone_json.ensures.content c.zone_json.ensures.text)
