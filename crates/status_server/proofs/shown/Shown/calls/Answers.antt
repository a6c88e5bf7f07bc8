use Rattle.std.proofs.lemmas.Result.{IfOk-weaker}
use Rattle.status_page.specs.JsonRows.{calls_text}
use Rattle.status_page.specs.declared.response.Content.TheVariants.{Json}
use Rattle.status_server.specs.Shown.{IsCallPageOf, IsPage}
use Rattle.status_server.proofs.Paged.{IsPage-parts}
use Rattle.status_server.proofs.shown.Shown.calls.Goals as goal

pub returns : goal.returns
returns g c =
    let tells = g.Z.RunningZone in
    let zone = c.args.self.now.zone.now in
    let query = c.args.query.now in
    let list = c.in_ok-list.list in
    let told = c.in_ok-list.ensures in
    let text = calls_text list.rows.items list.is_more in
    IfOk-weaker c.calls_json.result (IsPage Json text) (IsCallPageOf tells zone query)
    (λ page is. (list, (told.told, told.after, told.most, told.rising, told.first), is))
    (IsPage-parts c.calls_json.result Json text c.calls_json.ensures.found c.calls_json.ensures.content c.calls_json.ensures.text)
