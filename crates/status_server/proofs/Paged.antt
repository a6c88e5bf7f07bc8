-- A page, from what is said of its parts.
use Rattle.std.proofs.Common.{◌≡◌, ℕ, List, Result, Ok, Err, IfOk}
use Rattle.std.specs.String.{string_bytes}
use Rattle.status_page.specs.declared.response.Content.{Content}
use Rattle.status_page.specs.declared.response.Response.{Response}
use Rattle.status_page.specs.declared.response.Status.TheVariants.{Found}
use Rattle.status_server.specs.Shown.{IsPage}

pub IsPage-parts : {E : Type 0} (r : Result Response E) (content : Content) (text : List ℕ)
    → IfOk r (λ page. page.status ≡ Found) → IfOk r (λ page. page.content ≡ content)
    → IfOk r (λ page. string_bytes page.text ≡ text) → IfOk r (IsPage content text)
IsPage-parts (Ok page) content text status is_content is_text = (status, is_content, is_text)
IsPage-parts (Err fault) content text status is_content is_text = tt
