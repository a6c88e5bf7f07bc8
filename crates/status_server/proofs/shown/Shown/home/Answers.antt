use Rattle.std.proofs.Common.{◌∙◌, subst, sym, ℕ, All, IsTrue, List, Option}
use Rattle.std.proofs.lemmas.Result.{IfOk-weaker}
use Rattle.status_page.specs.Home.{home_text}
use Rattle.status_page.specs.Lists.{AreFirstEndpoints, is_endpoint_after}
use Rattle.status_page.specs.declared.response.Content.TheVariants.{Html}
use Rattle.status_page.specs.declared.overview.Overview.{Overview}
use Rattle.status_server.specs.Shown.{IsHomeOf, IsOverviewOf, IsPage}
use Rattle.status_server.proofs.Paged.{IsPage-parts}
use Rattle.status_server.proofs.shown.Shown.home.Goals as goal

pub returns : goal.returns
returns g c =
    let tells = g.Z.RunningZone in
    let zone = c.args.self.now.zone.now in
    let about = c.args.self.now.about in
    let query = c.args.query.now in
    let overview = c.deref.result.now in
    let endpoints = c.in_ok-endpoints.endpoints in
    let calls = c.in_ok-calls.calls in
    let text = home_text about overview query endpoints calls in
    let is = c.copied.ensures ∙ c.endpoint.ensures in
    let IsAfter : Option (List ℕ) → Type 0 = λ after. All (λ row. IsTrue (is_endpoint_after after row.value.identifier)) endpoints.rows.items in
    let after = subst IsAfter is c.in_ok-endpoints.ensures.after in
    let AreFirst : Option (List ℕ) → Type 0 = λ after. AreFirstEndpoints (tells.has_endpoint zone) (tells.has_endpoints_below zone) after query.most endpoints in
    let first = subst AreFirst is c.in_ok-endpoints.ensures.first in
    let IsTold : Overview → Type 0 = λ overview. ∥ IsOverviewOf tells zone overview ∥₁ in
    let overview_told = subst IsTold (sym c.deref.ensures) c.in_ok-overview.ensures in
    let told = c.in_ok-endpoints.ensures in
    let called = c.in_ok-calls.ensures in
    IfOk-weaker c.home.result (IsPage Html text) (IsHomeOf tells zone about query)
    (λ page is. (overview, endpoints, calls, overview_told, (told.told, after, told.most, told.rising, first), (called.told, called.after, called.most, called.rising, called.first), is))
    (IsPage-parts c.home.result Html text c.home.ensures.found c.home.ensures.content c.home.ensures.text)
