-- The fields of a response: it isn't kept, its type isn't guessed, and it runs nothing.
use Rattle.std.specs.Prelude.{ℕ, ◌≡◌, List, [], ◌∷◌, codes, Option, Some, None}
use Rattle.hyper.specs.FieldValue.{FieldValue, plain_value}
use Rattle.status_page.specs.Statuses.{media_type_of}
use Rattle.status_page.specs.declared.response.Content.{Content}
use Rattle.status_page.specs.declared.response.Status.{Status}
use Rattle.status_page.specs.declared.response.Status.TheVariants.{NotAllowed}

-- a field with its one value
abbrev pub Field : Type 0
Field = List ℕ × List FieldValue

abbrev pub field : List ℕ → List ℕ → Field
field name value = (name, plain_value value ∷ [])

-- the methods that are allowed, if that of the request wasn't
abbrev pub allow_of : Status → List Field
allow_of NotAllowed = field (codes "allow") (codes "GET, HEAD") ∷ []
allow_of other = []

abbrev pub fields_of : Status → Content → List Field
fields_of status content =
    field (codes "content-type") (media_type_of content)
    ∷ field (codes "cache-control") (codes "no-store")
    ∷ field (codes "x-content-type-options") (codes "nosniff")
    ∷ field (codes "content-security-policy")
    (codes "default-src 'none'; style-src 'unsafe-inline'; frame-ancestors 'none'")
    ∷ allow_of status

-- a body with this text: none if there is no text
abbrev pub IsBody : List ℕ → Option (List ℕ) → Type 0
IsBody [] body = body ≡ None
IsBody (c ∷ cs) body = body ≡ Some (c ∷ cs)
