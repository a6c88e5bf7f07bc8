-- The first line that tells which signals wait.
use Rattle.std.proofs.Common.{ℕ, ◌≡◌, ◌<◌, ◌+◌, List, ◌∷◌, length, get_or, drop}
use Rattle.std.proofs.Common.{Option, Some, None, refl, sym, ap, ◌∙◌, arith, add-one, drop-cons}
use Rattle.std.proofs.lemmas.List.{drop_all}
use Rattle.std.specs.Str.Lines.{lines}
use Rattle.surroundings.specs.Signals.{first_of, first_waiting, waiting_in}

-- what is told of the lines from this one on
abbrev pub Tells : List ℕ → ℕ → Option (List ℕ) → Type 0
Tells status k found = first_waiting (drop k (lines status)) ≡ found

from_line : (status : List ℕ) (k : ℕ) (line : List ℕ) → k < length (lines status)
    → line ≡ get_or (lines status) k line
    → drop k (lines status) ≡ line ∷ drop (k + 1) (lines status)
from_line status k line below is =
    let at : get_or (lines status) k line ≡ line = sym is in
    rw (add-one, drop-cons (lines status) k line below, at) refl

pub told_here : (status : List ℕ) (k : ℕ) (line digits : List ℕ) (found : Option (List ℕ))
    → k < length (lines status) → line ≡ get_or (lines status) k line
    → Some digits ≡ waiting_in line → Tells status k found → Some digits ≡ found
told_here status k line digits found below is e tells =
    ap (λ first. first_of first (first_waiting (drop (k + 1) (lines status)))) e
    ∙ ap first_waiting (sym (from_line status k line below is)) ∙ tells

pub told_later : (status : List ℕ) (k next : ℕ) (line : List ℕ) (found : Option (List ℕ))
    → k < length (lines status) → line ≡ get_or (lines status) k line
    → None ≡ waiting_in line → next ≡ k + 1 → Tells status k found → Tells status next found
told_later status k next line found below is e after tells =
    rw after (ap (λ first. first_of first (first_waiting (drop (k + 1) (lines status)))) e
    ∙ ap first_waiting (sym (from_line status k line below is)) ∙ tells)

pub told_nowhere : (status : List ℕ) (k : ℕ) (found : Option (List ℕ))
    → k ≡ length (lines status) → Tells status k found → None ≡ found
told_nowhere status k found all tells =
    ap first_waiting (sym (drop_all k (lines status) (omega (arith, all)))) ∙ tells
