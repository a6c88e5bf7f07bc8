-- What is answered to what is asked for. A zone says which figures, counts and rows are its own at
-- some moment, and which rows it tells together, below which place: `Z.RunningZone` has these
-- words of a type `Z` of zones.
use Rattle.std.specs.Prelude.{ℕ, ◌≡◌, ◌≢◌, ◌≤◌, ◌⊎◌, ◌++◌, ◌∷◌, [], All, Bool, IsTrue, List, codes}
use Rattle.std.specs.Prelude.{false, true, vec_len}
use Rattle.std.specs.Cmp.Lexicographic.{slice_cmp}
use Rattle.std.specs.List.Sorted.{IsStrictlySortedBy}
use Rattle.std.specs.Ordering.{nat_cmp}
use Rattle.std.specs.String.{string_bytes}
use Rattle.zone_view.specs.declared.running_zone.RunningZone as RunningZone
use Rattle.status_page.specs.Home.{home_text}
use Rattle.status_page.specs.JsonRows.{calls_text, endpoints_text}
use Rattle.status_page.specs.JsonZone.{zone_text}
use Rattle.status_page.specs.Lists.{AreFirstCalls, AreFirstEndpoints, call_keys_of}
use Rattle.status_page.specs.Lists.{identifiers_of, is_call_after, is_endpoint_after}
use Rattle.status_page.specs.Metrics.{metrics_of}
use Rattle.status_page.specs.declared.asked.Asked.{Asked}
use Rattle.status_page.specs.declared.asked.Asked.TheVariants as asked
use Rattle.status_page.specs.declared.lists.CallList.{CallList}
use Rattle.status_page.specs.declared.lists.EndpointList.{EndpointList}
use Rattle.status_page.specs.declared.overview.About.{About}
use Rattle.status_page.specs.declared.overview.Overview.{Overview}
use Rattle.status_page.specs.declared.query.Query.{Query}
use Rattle.status_page.specs.declared.response.Content.{Content}
use Rattle.status_page.specs.declared.response.Content.TheVariants as content
use Rattle.status_page.specs.declared.response.Response.{Response}
use Rattle.status_page.specs.declared.response.Status.{Status}
use Rattle.status_page.specs.declared.response.Status.TheVariants as status

-- whether what is asked for has rows
abbrev pub has_rows : Asked → Bool
has_rows (asked.Home query) = true
has_rows (asked.Endpoints query) = true
has_rows (asked.Calls query) = true
has_rows other = false

-- what is asked for waits behind what was listed last, if and only if it has rows, it isn't the
-- same, and those rows are fresh
abbrev pub IsToWait : Asked → Asked → Bool → Type 0
IsToWait last asked is_fresh = IsTrue (has_rows asked) × (last ≢ asked) × IsTrue is_fresh

-- a response with this text
abbrev pub IsText : Status → Content → List ℕ → Response → Type 0
IsText status content text response = (response.status ≡ status)
    × (response.content ≡ content) × (string_bytes response.text ≡ text)

-- a page that was found, with this text
abbrev pub IsPage : Content → List ℕ → Response → Type 0
IsPage content text response = IsText status.Found content text response

-- a line of plain text
abbrev pub IsLine : Status → List ℕ → Response → Type 0
IsLine status words response = IsText status content.Plain (words ++ 10 ∷ []) response

module _ {Z : Type 0} (tells : RunningZone.Ghosts Z) (zone : Z) where
  -- endpoints of the zone, behind the one that a query names, at most as many as it asks for,
  -- rising: the first of all that the zone told, with whether it told more
  abbrev pub AreEndpointsOf : Query → EndpointList → Type 0
  AreEndpointsOf query list =
      All (λ row. tells.has_endpoint zone row.value) list.rows.items
      × All (λ row. IsTrue (is_endpoint_after query.endpoint row.value.identifier)) list.rows.items
      × (vec_len list.rows ≤ query.most)
      × IsStrictlySortedBy (slice_cmp nat_cmp) (identifiers_of list.rows.items)
      × AreFirstEndpoints (tells.has_endpoint zone) (tells.has_endpoints_below zone)
      query.endpoint query.most list

  -- calls of the zone, likewise
  abbrev pub AreCallsOf : Query → CallList → Type 0
  AreCallsOf query list =
      All (λ row. tells.has_call zone row.value) list.rows.items
      × All (λ row. IsTrue (is_call_after query.call row.value.key)) list.rows.items
      × (vec_len list.rows ≤ query.most)
      × IsStrictlySortedBy (slice_cmp nat_cmp) (call_keys_of list.rows.items)
      × AreFirstCalls (tells.has_call zone) (tells.has_calls_below zone)
      query.call query.most list

  -- figures of the zone and of its pools at one moment, and what it and its server had counted
  abbrev pub IsOverviewOf : Overview → Type 0
  IsOverviewOf overview = tells.has_figures zone overview.figures overview.pools.items
      × tells.has_server zone overview.server × tells.has_counts zone overview.counts

  -- the page for people
  abbrev pub IsHomeOf : About → Query → Response → Type 0
  IsHomeOf about query response =
      (overview : Overview) × (endpoints : EndpointList) × (calls : CallList)
      × ∥ IsOverviewOf overview ∥₁ × AreEndpointsOf query endpoints × AreCallsOf query calls
      × IsPage content.Html (home_text about overview query endpoints calls) response

  -- the list of endpoints in JSON
  abbrev pub IsEndpointPageOf : Query → Response → Type 0
  IsEndpointPageOf query response = (list : EndpointList) × AreEndpointsOf query list
      × IsPage content.Json (endpoints_text list.rows.items list.is_more) response

  -- the list of calls in JSON
  abbrev pub IsCallPageOf : Query → Response → Type 0
  IsCallPageOf query response = (list : CallList) × AreCallsOf query list
      × IsPage content.Json (calls_text list.rows.items list.is_more) response

  -- the metrics
  abbrev pub IsMetricsOf : About → Response → Type 0
  IsMetricsOf about response = (overview : Overview) × ∥ IsOverviewOf overview ∥₁
      × IsPage content.Metrics (metrics_of about overview) response

  -- the zone in JSON
  abbrev pub IsZonePageOf : About → Response → Type 0
  IsZonePageOf about response = (overview : Overview) × ∥ IsOverviewOf overview ∥₁
      × IsPage content.Json (zone_text about overview) response

  -- whether the zone is served: it told so at some moment
  abbrev pub IsHealthOf : Response → Type 0
  IsHealthOf response =
      tells.is_ended zone false × IsLine status.Found (codes "ok") response
      ⊎ tells.is_ended zone true × IsLine status.Unavailable (codes "ended") response

  -- the answer to what is asked for, of the zone that is called so
  abbrev pub IsAnswerOf : About → Asked → Response → Type 0
  IsAnswerOf about (asked.Home query) response = IsHomeOf about query response
  IsAnswerOf about (asked.Endpoints query) response = IsEndpointPageOf query response
  IsAnswerOf about (asked.Calls query) response = IsCallPageOf query response
  IsAnswerOf about asked.Metrics response = IsMetricsOf about response
  IsAnswerOf about asked.Zone response = IsZonePageOf about response
  IsAnswerOf about asked.Health response = IsHealthOf response
  IsAnswerOf about asked.WrongQuery response =
      IsLine status.BadRequest (codes "no such query") response
  IsAnswerOf about asked.NoPage response = IsLine status.NotFound (codes "no such page") response
  IsAnswerOf about asked.NotAllowed response =
      IsLine status.NotAllowed (codes "GET and HEAD alone") response
