-- Codes of statuses, and media types.
use Rattle.std.specs.Prelude.{ℕ, List, codes}
use Rattle.status_page.specs.declared.response.Content.{Content}
use Rattle.status_page.specs.declared.response.Content.TheVariants.{Html, Metrics, Json, Plain}
use Rattle.status_page.specs.declared.response.Status.{Status}
use Rattle.status_page.specs.declared.response.Status.TheVariants.{Found, BadRequest, NotFound}
use Rattle.status_page.specs.declared.response.Status.TheVariants.{NotAllowed, Unavailable}

-- the codes of HTTP (RFC 9110, section 15)
abbrev pub code_of : Status → ℕ
code_of Found = 200
code_of BadRequest = 400
code_of NotFound = 404
code_of NotAllowed = 405
code_of Unavailable = 503

-- the media types of HTML, of JSON (RFC 8259), of Prometheus' text format and of plain text
abbrev pub media_type_of : Content → List ℕ
media_type_of Html = codes "text/html; charset=utf-8"
media_type_of Metrics = codes "text/plain; version=0.0.4; charset=utf-8"
media_type_of Json = codes "application/json"
media_type_of Plain = codes "text/plain; charset=utf-8"
