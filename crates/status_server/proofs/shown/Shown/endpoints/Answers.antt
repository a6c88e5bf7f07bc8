use Rattle.std.proofs.Common.{◌∙◌, subst, ℕ, All, IsTrue, List, Option}
use Rattle.std.proofs.lemmas.Result.{IfOk-weaker}
use Rattle.status_page.specs.JsonRows.{endpoints_text}
use Rattle.status_page.specs.Lists.{AreFirstEndpoints, is_endpoint_after}
use Rattle.status_page.specs.declared.response.Content.TheVariants.{Json}
use Rattle.status_server.specs.Shown.{IsEndpointPageOf, IsPage}
use Rattle.status_server.proofs.Paged.{IsPage-parts}
use Rattle.status_server.proofs.shown.Shown.endpoints.Goals as goal

pub returns : goal.returns
returns g c =
    let tells = g.Z.RunningZone in
    let zone = c.args.self.now.zone.now in
    let query = c.args.query.now in
    let list = c.in_ok-list.list in
    let told = c.in_ok-list.ensures in
    let text = endpoints_text list.rows.items list.is_more in
    let is = c.copied.ensures ∙ c.endpoint.ensures in
    let IsAfter : Option (List ℕ) → Type 0 = λ after. All (λ row. IsTrue (is_endpoint_after after row.value.identifier)) list.rows.items in
    let after = subst IsAfter is told.after in
    let AreFirst : Option (List ℕ) → Type 0 = λ after. AreFirstEndpoints (tells.has_endpoint zone) (tells.has_endpoints_below zone) after query.most list in
    let first = subst AreFirst is told.first in
    IfOk-weaker c.endpoints_json.result (IsPage Json text) (IsEndpointPageOf tells zone query)
    (λ page is. (list, (told.told, after, told.most, told.rising, first), is))
    (IsPage-parts c.endpoints_json.result Json text c.endpoints_json.ensures.found c.endpoints_json.ensures.content c.endpoints_json.ensures.text)
