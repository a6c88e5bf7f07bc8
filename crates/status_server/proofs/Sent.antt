-- What is sent, from what is said of its parts.
use Rattle.std.proofs.Common.{◌≡◌, ℕ, List, Option, Result, Ok, Err, IfOk}
use Rattle.std.specs.String.{string_bytes}
use Rattle.status_page.specs.Statuses.{code_of}
use Rattle.status_page.specs.declared.response.Response.{Response}
use Rattle.status_server.specs.Fields.{Field, IsBody, fields_of}
use Rattle.status_server.specs.Requests.{IsAnswered}

pub IsAnswered-parts : {S E : Type 0} (r : Result S E) (status : S → ℕ) (fields : S → List Field)
    (body : S → Option (List ℕ)) (Answers : Response → Type 0) (response : Response)
    → Answers response
    → IfOk r (λ sent. status sent ≡ code_of response.status)
    → IfOk r (λ sent. fields sent ≡ fields_of response.status response.content)
    → IfOk r (λ sent. IsBody (string_bytes response.text) (body sent))
    → IfOk r (λ sent. IsAnswered Answers (status sent) (fields sent) (body sent))
IsAnswered-parts (Ok sent) status fields body Answers response of is_status are_fields is_body =
    (response, of, (is_status, are_fields, is_body))
IsAnswered-parts (Err fault) status fields body Answers response of is_status are_fields is_body = tt
