-- Requests, and what is sent as an answer to them.
use Rattle.std.specs.Prelude.{ℕ, ◌≡◌, cond, List, [], codes, Option}
use Rattle.std.specs.Option.{unwrap_or}
use Rattle.std.specs.Str.{bytes_eq}
use Rattle.std.specs.String.{string_bytes}
use Rattle.status_page.specs.Asking.{asked_of}
use Rattle.status_page.specs.Statuses.{code_of}
use Rattle.status_page.specs.declared.asked.Asked.{Asked}
use Rattle.status_page.specs.declared.asked.Method.{Method}
use Rattle.status_page.specs.declared.asked.Method.TheVariants.{Look, Other}
use Rattle.status_page.specs.declared.response.Response.{Response}
use Rattle.status_server.specs.Fields.{Field, IsBody, fields_of}

-- how a request with this method asks (RFC 9110, section 9.3)
abbrev pub method_of : List ℕ → Method
method_of name =
    cond (bytes_eq name (codes "GET")) Look (cond (bytes_eq name (codes "HEAD")) Look Other)

-- what a request with this method, path and query asks for
abbrev pub request_asked : List ℕ → List ℕ → Option (List ℕ) → Asked
request_asked method path query = asked_of (method_of method) path (unwrap_or query [])

-- a response is sent with this status, these fields and this body
abbrev pub IsSent : Response → ℕ → List Field → Option (List ℕ) → Type 0
IsSent response status fields body = (status ≡ code_of response.status)
    × (fields ≡ fields_of response.status response.content)
    × IsBody (string_bytes response.text) body

-- one of these answers is sent with this status, these fields and this body
abbrev pub IsAnswered : (Response → Type 0) → ℕ → List Field → Option (List ℕ) → Type 0
IsAnswered Answers status fields body =
    (response : Response) × Answers response × IsSent response status fields body
