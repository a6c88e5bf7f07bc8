-- A copy of an answer is an answer.
use Rattle.std.proofs.Common.{◌≡◌, ◌∙◌, ⊎_elim, inl, inr, ℕ, List}
use Rattle.std.specs.String.{string_bytes}
use Rattle.zone_view.specs.declared.running_zone.RunningZone as RunningZone
use Rattle.status_page.specs.declared.asked.Asked.{Asked}
use Rattle.status_page.specs.declared.asked.Asked.TheVariants as asked
use Rattle.status_page.specs.declared.overview.About.{About}
use Rattle.status_page.specs.declared.response.Content.{Content}
use Rattle.status_page.specs.declared.response.Response.{Response}
use Rattle.status_page.specs.declared.response.Status.{Status}
use Rattle.status_server.specs.Shown.{IsAnswerOf, IsText}

-- both are sent as the same
abbrev pub IsCopy : Response → Response → Type 0
IsCopy copy response = (copy.status ≡ response.status) × (copy.content ≡ response.content)
    × (string_bytes copy.text ≡ string_bytes response.text)

IsText-copy : (copy response : Response) → IsCopy copy response → (status : Status)
    (content : Content) (text : List ℕ)
    → IsText status content text response → IsText status content text copy
IsText-copy copy response is status content text of =
    (is.0 ∙ of.0, is.1 ∙ of.1, is.2 ∙ of.2)

pub IsAnswerOf-copy : {Z : Type 0} (tells : RunningZone.Ghosts Z) (zone : Z) (about : About)
    (it : Asked) (copy response : Response) → IsCopy copy response
    → IsAnswerOf tells zone about it response → IsAnswerOf tells zone about it copy
IsAnswerOf-copy tells zone about (asked.Home query) copy response is (overview, endpoints, calls, told, listed, called, page) =
    (overview, endpoints, calls, told, listed, called, IsText-copy copy response is _ _ _ page)
IsAnswerOf-copy tells zone about (asked.Endpoints query) copy response is (list, listed, page) =
    (list, listed, IsText-copy copy response is _ _ _ page)
IsAnswerOf-copy tells zone about (asked.Calls query) copy response is (list, called, page) =
    (list, called, IsText-copy copy response is _ _ _ page)
IsAnswerOf-copy tells zone about asked.Metrics copy response is (overview, told, page) =
    (overview, told, IsText-copy copy response is _ _ _ page)
IsAnswerOf-copy tells zone about asked.Zone copy response is (overview, told, page) =
    (overview, told, IsText-copy copy response is _ _ _ page)
IsAnswerOf-copy tells zone about asked.Health copy response is of =
    ⊎_elim (λ of. inl (of.0, IsText-copy copy response is _ _ _ of.1))
    (λ of. inr (of.0, IsText-copy copy response is _ _ _ of.1)) of
IsAnswerOf-copy tells zone about asked.WrongQuery copy response is of = IsText-copy copy response is _ _ _ of
IsAnswerOf-copy tells zone about asked.NoPage copy response is of = IsText-copy copy response is _ _ _ of
IsAnswerOf-copy tells zone about asked.NotAllowed copy response is of = IsText-copy copy response is _ _ _ of
