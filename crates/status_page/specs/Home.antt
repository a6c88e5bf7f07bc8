-- The page for people, from its head to its foot.
use Rattle.std.specs.Prelude.{ℕ, Bool, cond, is_some, List, [], ◌∷◌, codes, Option, Some, None, Box}
use Rattle.std.specs.Fmt.{decimal}
use Rattle.std.specs.Global.{Global}
use Rattle.std.specs.List.{concat}
use Rattle.pools.specs.declared.interface.Figures.{Figures}
use Rattle.zone_view.specs.declared.figures.ZoneFigures.{ZoneFigures}
use Rattle.zone_view.specs.declared.rows.CallRow.{CallRow}
use Rattle.zone_view.specs.declared.rows.EndpointRow.{EndpointRow}
use Rattle.status_page.specs.HomeCounts.{counts_html}
use Rattle.status_page.specs.HomeParts.{bar_html, html_text, link_html, span_text, tile_html}
use Rattle.status_page.specs.HomeRows.{calls_html, endpoints_html}
use Rattle.status_page.specs.JsonRows.{last_of}
use Rattle.status_page.specs.Texts.{address_text, numbered}
use Rattle.status_page.specs.declared.lists.CallList.{CallList}
use Rattle.status_page.specs.declared.lists.EndpointList.{EndpointList}
use Rattle.status_page.specs.declared.overview.About.{About}
use Rattle.status_page.specs.declared.overview.Overview.{Overview}
use Rattle.status_page.specs.declared.query.Query.{Query}
use Rattle.status_page.specs.declared.style.TheConstants.{STYLE}

-- the head: the zone's name, its address, and for how long it has been served
abbrev pub title_parts : About → List (List ℕ)
title_parts about =
    codes "<!doctype html>\n<html lang=en><head><meta charset=utf-8>"
    ∷ codes "<meta name=viewport content=\"width=device-width,initial-scale=1\">"
    ∷ codes "<meta http-equiv=refresh content=10><link rel=icon href=data:,><title>"
    ∷ html_text about.name ∷ codes " - gatekeeper</title><style>" ∷ STYLE.now
    ∷ codes "</style></head>\n" ∷ []

unfoldable pub title_html : About → List ℕ
title_html about = concat (title_parts about)

abbrev pub header_parts : About → ℕ → List (List ℕ)
header_parts about clock =
    codes "<body><header><h1><small>H.323 gatekeeper</small>" ∷ html_text about.name
    ∷ codes "</h1><p><code>" ∷ address_text about.address
    ∷ codes "</code> &middot; serving for " ∷ span_text clock
    ∷ codes "</p><nav><a href=#bandwidth>Bandwidth</a><a href=#endpoints>Endpoints</a>"
    ∷ codes "<a href=#calls>Calls</a><a href=#traffic>Traffic</a></nav></header>\n<main>\n" ∷ []

unfoldable pub header_html : About → ℕ → List ℕ
header_html about clock = concat (header_parts about clock)

-- the figures that have no limit
abbrev pub tiles_parts : ZoneFigures → List (List ℕ)
tiles_parts figures =
    codes "<section class=tiles>\n"
    ∷ tile_html figures.endpoints (codes "endpoints")
    ∷ tile_html figures.calls (codes "calls")
    ∷ tile_html figures.kept (codes "kept replies")
    ∷ tile_html figures.steps (codes "steps") ∷ codes "</section>\n" ∷ []

unfoldable pub tiles_html : ZoneFigures → List ℕ
tiles_html figures = concat (tiles_parts figures)

-- the bandwidth of the zone, and that of each pool by its place, from 0
abbrev pub pool_title_parts : ℕ → Figures → List (List ℕ)
pool_title_parts place pool =
    codes "Pool " ∷ decimal place ∷ codes " <small>" ∷ decimal pool.refusals
    ∷ codes " refused, " ∷ decimal pool.waits ∷ codes " delayed</small>" ∷ []

unfoldable pub pool_title : ℕ → Figures → List ℕ
pool_title place pool = concat (pool_title_parts place pool)

unfoldable pub pool_html : ℕ → Figures → List ℕ
pool_html place pool = bar_html (pool_title place pool) pool.lent pool.limit

abbrev pub bandwidth_parts : ZoneFigures → List Figures → List (List ℕ)
bandwidth_parts figures pools =
    codes "<section id=bandwidth><h2>Bandwidth</h2><div class=bars>\n"
    ∷ bar_html (codes "Whole zone") figures.in_use figures.limit
    ∷ numbered pool_html 0 pools ∷ codes "</div></section>\n" ∷ []

unfoldable pub bandwidth_html : ZoneFigures → List Figures → List ℕ
bandwidth_html figures pools = concat (bandwidth_parts figures pools)

-- the endpoints, with links to the first ones, if others were asked for, and to those behind the
-- last one of these, if the zone told more
unfoldable pub first_endpoints : Query → List ℕ
first_endpoints query =
    cond (is_some query.endpoint) (link_html (codes "First endpoints") None query.call) []

unfoldable pub next_endpoints : Query → Bool → Option (Box EndpointRow Global) → List ℕ
next_endpoints query is_more None = []
next_endpoints query is_more (Some row) =
    cond is_more (link_html (codes "Next endpoints") (Some row.value.identifier) query.call) []

abbrev pub endpoints_parts : Query → EndpointList → ZoneFigures → List (List ℕ)
endpoints_parts query list figures =
    codes "<section id=endpoints><h2>Endpoints <small>" ∷ decimal figures.endpoints
    ∷ codes " registered</small></h2>\n" ∷ endpoints_html figures.clock list.rows.items
    ∷ codes "<p class=more>" ∷ first_endpoints query
    ∷ next_endpoints query list.is_more (last_of list.rows.items) ∷ codes "</p></section>\n" ∷ []

unfoldable pub endpoints_section : Query → EndpointList → ZoneFigures → List ℕ
endpoints_section query list figures = concat (endpoints_parts query list figures)

-- the calls, with such links
unfoldable pub first_calls : Query → List ℕ
first_calls query =
    cond (is_some query.call) (link_html (codes "First calls") query.endpoint None) []

unfoldable pub next_calls : Query → Bool → Option (Box CallRow Global) → List ℕ
next_calls query is_more None = []
next_calls query is_more (Some row) =
    cond is_more (link_html (codes "Next calls") query.endpoint (Some row.value.key)) []

abbrev pub calls_parts : Query → CallList → ZoneFigures → List (List ℕ)
calls_parts query list figures =
    codes "<section id=calls><h2>Calls <small>" ∷ decimal figures.calls
    ∷ codes " open</small></h2>\n" ∷ calls_html list.rows.items
    ∷ codes "<p class=more>" ∷ first_calls query
    ∷ next_calls query list.is_more (last_of list.rows.items) ∷ codes "</p></section>\n" ∷ []

unfoldable pub calls_section : Query → CallList → ZoneFigures → List ℕ
calls_section query list figures = concat (calls_parts query list figures)

-- the foot
abbrev pub foot_parts : List (List ℕ)
foot_parts =
    codes "</main><footer><p>This page is renewed every 10 seconds. The same for programs:</p>"
    ∷ codes "<p><a href=/metrics>metrics for Prometheus</a><a href=/zone.json>zone</a>"
    ∷ codes "<a href=/endpoints.json>endpoints</a><a href=/calls.json>calls</a></p></footer>\n"
    ∷ codes "</body></html>\n" ∷ []

unfoldable pub foot_html : List ℕ
foot_html = concat foot_parts

-- the whole page
abbrev pub home_parts : About → Overview → Query → EndpointList → CallList → List (List ℕ)
home_parts about overview query endpoints calls =
    title_html about
    ∷ header_html about overview.figures.clock
    ∷ tiles_html overview.figures
    ∷ bandwidth_html overview.figures overview.pools.items
    ∷ endpoints_section query endpoints overview.figures
    ∷ calls_section query calls overview.figures
    ∷ counts_html overview.counts overview.server
    ∷ foot_html ∷ []

unfoldable pub home_text : About → Overview → Query → EndpointList → CallList → List ℕ
home_text about overview query endpoints calls =
    concat (home_parts about overview query endpoints calls)
