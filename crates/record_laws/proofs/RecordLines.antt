-- The lines of a record, and how an audit goes on behind each.
use Rattle.std.proofs.Common.{◌≡◌, ◌≤◌, ◌==◌, ◌&&◌, ℕ, List, [], ◌∷◌, ◌++◌, length, codes, Bool}
use Rattle.std.proofs.Common.{true}
use Rattle.std.proofs.Common.{false, refl, sym, ap, ◌∙◌, append_assoc, subst}
use Rattle.std.proofs.Common.{nat_lt}
use Rattle.zone_events.specs.declared.change.Change.{Change}
use Rattle.zone_events.specs.declared.outcome.Outcome.{Outcome}
use Rattle.record_audit.specs.Lines.{begun_behind, lines_behind}
use Rattle.record_audit.specs.Records.{GoesThrough, GoesUnless, Standing, Takes, is_remark}
use Rattle.record_audit.specs.Records.{most_octets, step_taken, step_unless}
use Rattle.recording.specs.Zones.{with_ends}
use Rattle.recording.proofs.LineWords.{Without}

abbrev pub Steps : Type 0
Steps = List (Change × Outcome)

-- no line ends in any of these
abbrev pub AreLines : List (List ℕ) → Type 0
AreLines [] = Unit {0}
AreLines (text ∷ texts) = Without 10 text × AreLines texts

pub lines_append : (xs ys : List (List ℕ)) → AreLines xs → AreLines ys → AreLines (xs ++ ys)
lines_append [] ys h k = k
lines_append (x ∷ xs) ys h k = (h.0, lines_append xs ys h.1 k)

pub ends_append : (xs ys : List (List ℕ)) → with_ends (xs ++ ys) ≡ with_ends xs ++ with_ends ys
ends_append [] ys = refl
ends_append (x ∷ xs) ys =
    ap (λ (t : List ℕ). (x ++ codes "\n") ++ t) (ends_append xs ys)
    ∙ sym (append_assoc (x ++ codes "\n") (with_ends xs) (with_ends ys))

-- ---- lines

line_front : (begun text rest : List ℕ) → Without 10 text
    → lines_behind begun ((text ++ codes "\n") ++ rest) ≡ (begun ++ text) ∷ lines_behind [] rest
line_front begun [] rest none =
    ap (λ (t : List ℕ). t ∷ lines_behind [] rest) (sym (append_end begun))
  where
    append_end : (xs : List ℕ) → xs ++ [] ≡ xs
    append_end [] = refl
    append_end (x ∷ xs) = ap (λ (t : List ℕ). x ∷ t) (append_end xs)
line_front begun (c ∷ cs) rest none =
    rw none.0 (line_front (begun ++ c ∷ []) cs rest none.1
    ∙ ap (λ (t : List ℕ). t ∷ lines_behind [] rest) (append_assoc begun (c ∷ []) cs))

begun_front : (begun text rest : List ℕ) → Without 10 text
    → begun_behind begun ((text ++ codes "\n") ++ rest) ≡ begun_behind [] rest
begun_front begun [] rest none = refl
begun_front begun (c ∷ cs) rest none = rw none.0 (begun_front (begun ++ c ∷ []) cs rest none.1)

pub lines_are : (texts : List (List ℕ)) → AreLines texts → lines_behind [] (with_ends texts) ≡ texts
lines_are [] h = refl
lines_are (text ∷ texts) h =
    line_front [] text (with_ends texts) h.0
    ∙ ap (λ (ts : List (List ℕ)). text ∷ ts) (lines_are texts h.1)

pub none_begun : (texts : List (List ℕ)) → AreLines texts → begun_behind [] (with_ends texts) ≡ []
none_begun [] h = refl
none_begun (text ∷ texts) h =
    begun_front [] text (with_ends texts) h.0 ∙ none_begun texts h.1

-- ---- how an audit goes on

and_false : (b : Bool) → (b && false) ≡ false
and_false true = refl
and_false false = refl

-- a line that begins with another character is no remark
pub no_remark : (c : ℕ) (cs : List ℕ) → (c == 35) ≡ false → is_remark (c ∷ cs) ≡ false
no_remark c cs other =
    ap (λ (b : Bool). nat_lt 0 (length (c ∷ cs)) && b) other
    ∙ and_false (nat_lt 0 (length (c ∷ cs)))

pub goes_on : (old mid new : Standing) (line : List ℕ) (lines : List (List ℕ)) (step others : Steps)
    → is_remark line ≡ false → length line ≤ most_octets
    → Takes old.zone old.awaited old line mid
    → step_taken old.zone old.awaited line ≡ step → GoesThrough mid lines others new
    → GoesThrough old (line ∷ lines) (step ++ others) new
goes_on old mid new line lines step others plain short takes taken rest = (
  mid,
  (short, subst (λ (b : Bool). GoesUnless b old line mid) (sym plain) takes),
  others,
  rest,
  ap (λ (s : Steps). s ++ others)
      (sym (ap (λ (b : Bool). step_unless b old line) plain ∙ taken)),
)
