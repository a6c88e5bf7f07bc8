-- Known bytes, one read or write after another.
use Rattle.std.proofs.Common.{◌≡◌, ◌∙◌, ℕ, List, ◌++◌, Option, Result, Ok, subst, sym}
use Rattle.std.proofs.Common.{OnOk}
use Rattle.std.proofs.lemmas.Result.{on_ok_weaker}
use Rattle.std.proofs.KnownBytes.{Appends-trans}
use Rattle.std.specs.Io.KnownBytes.{Appends}

pub appends_then_on_ok : {A E : Type 0} (r : Result A E) (a b c : Option (List ℕ)) (xs ys : List ℕ)
    → Appends a b xs → OnOk r (Appends b c ys)
    → OnOk r (Appends a c (xs ++ ys))
appends_then_on_ok r a b c xs ys p q =
    on_ok_weaker r (λ (q : Appends b c ys). Appends-trans a b c xs ys p q) q

-- a write that is told to have succeeded wrote the text
pub appends_at_ok : {A E : Type 0} (told made : Result A E) (x : A)
    (old new end : Option (List ℕ)) (text : List ℕ) → told ≡ Ok x → told ≡ made → end ≡ new
    → OnOk made (Appends old new text) → Appends old end text
appends_at_ok {A} {E} told made x old new end text ok is out wrote =
    subst (λ (o : Option (List ℕ)). Appends old o text) (sym out)
    (subst (λ (r : Result A E). OnOk r (Appends old new text)) (sym is ∙ ok) wrote)
