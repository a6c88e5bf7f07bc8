-- What a request asks for.
use Rattle.std.specs.Prelude.{ℕ, cond, List, codes, Option, Some, None}
use Rattle.std.specs.Str.{bytes_eq}
use Rattle.status_page.specs.Queries.{query_of}
use Rattle.status_page.specs.declared.asked.Asked.{Asked}
use Rattle.status_page.specs.declared.asked.Asked.TheVariants as asked
use Rattle.status_page.specs.declared.asked.Method.{Method}
use Rattle.status_page.specs.declared.asked.Method.TheVariants as method
use Rattle.status_page.specs.declared.query.Query.{Query}
use Rattle.status_page.specs.declared.query.Table.{Table}
use Rattle.status_page.specs.declared.query.Table.TheVariants as table

abbrev pub rows_by : Table → Option Query → Asked
rows_by page None = asked.WrongQuery
rows_by table.Home (Some query) = asked.Home query
rows_by table.Endpoints (Some query) = asked.Endpoints query
rows_by table.Calls (Some query) = asked.Calls query

-- what a query of a page with rows asks for
abbrev pub rows_asked : Table → List ℕ → Asked
rows_asked page text = rows_by page (query_of page text)

-- what a path asks for
abbrev pub page_asked : List ℕ → List ℕ → Asked
page_asked path query =
    cond (bytes_eq path (codes "/")) (rows_asked table.Home query)
    (cond (bytes_eq path (codes "/metrics")) asked.Metrics
    (cond (bytes_eq path (codes "/zone.json")) asked.Zone
    (cond (bytes_eq path (codes "/endpoints.json")) (rows_asked table.Endpoints query)
    (cond (bytes_eq path (codes "/calls.json")) (rows_asked table.Calls query)
    (cond (bytes_eq path (codes "/healthz")) asked.Health asked.NoPage)))))

-- what a request asks for
abbrev pub asked_of : Method → List ℕ → List ℕ → Asked
asked_of method.Look path query = page_asked path query
asked_of method.Other path query = asked.NotAllowed
