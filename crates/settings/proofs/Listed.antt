-- What is written piece by piece.
use Rattle.std.proofs.Common.{◌≡◌, ◌∙◌, ◌<◌, ◌+◌, ◌⊎◌, inl, inr, ℕ, List, [], ◌∷◌, ◌++◌, length, take, get_or}
use Rattle.std.proofs.Common.{Option, Result, OnOk, ap, sym, append_assoc, append-nil}
use Rattle.std.proofs.KnownBytes.{Appends-trans}
use Rattle.std.proofs.lemmas.Result.{on_ok_weaker}
use Rattle.std.specs.Io.KnownBytes.{Appends}
use Rattle.std.proofs.lemmas.Grind.{flat_map-append}
use Rattle.std.proofs.lemmas.List.{take_more}
use Rattle.std.specs.List.{flat_map, zip}

-- one more piece
pub piece_more : {A : Type 0} (text : A → List ℕ) (xs : List A) (i : ℕ) (x : A) → i < length xs
    → flat_map text (take (i + 1) xs) ≡ flat_map text (take i xs) ++ text (get_or xs i x)
piece_more text xs i x below =
    ap (flat_map text) (take_more xs i x below)
    ∙ flat_map-append text (take i xs) (get_or xs i x ∷ [])
    ∙ ap (λ t. flat_map text (take i xs) ++ t) (append-nil (text (get_or xs i x)))

-- what is left of two lists, of which a pair more is written
pub pair_more : {A B : Type 0} (text : A × B → List ℕ) (written all : List ℕ) (xs xs' : List A)
    (ys ys' : List B) (x : A) (y : B) → xs ≡ x ∷ xs' → ys ≡ y ∷ ys'
    → written ++ flat_map text (zip xs ys) ≡ all
    → (written ++ text (x, y)) ++ flat_map text (zip xs' ys') ≡ all
pair_more {A} {B} text written all xs xs' ys ys' x y is_x is_y left =
    append_assoc written (text (x, y)) (flat_map text (zip xs' ys'))
    ∙ ap (λ (ps : List (A × B)). written ++ flat_map text ps) (λ i. zip (sym is_x i) (sym is_y i))
    ∙ left

-- nothing is left if one of them is at its end
pub none_left : {A B : Type 0} (text : A × B → List ℕ) (written all : List ℕ) (xs : List A)
    (ys : List B) → (xs ≡ []) ⊎ (ys ≡ []) → written ++ flat_map text (zip xs ys) ≡ all
    → written ≡ all
none_left text written all [] ys ended left = sym (append-nil written) ∙ left
none_left text written all (x ∷ xs) [] ended left = sym (append-nil written) ∙ left
none_left text written all (x ∷ xs) (y ∷ ys) (inl e) left = absurd (cc e)
none_left text written all (x ∷ xs) (y ∷ ys) (inr e) left = absurd (cc e)

-- a last write behind others
pub appends_then_on_ok : {A E : Type 0} (r : Result A E) (a b c : Option (List ℕ)) (xs ys : List ℕ)
    → Appends a b xs → OnOk r (Appends b c ys)
    → OnOk r (Appends a c (xs ++ ys))
appends_then_on_ok r a b c xs ys p q =
    on_ok_weaker r (λ (q : Appends b c ys). Appends-trans a b c xs ys p q) q

-- four octets, a mark and a number, between two texts
pub numbers_flat : (front : List ℕ) (mark : ℕ) (a b c d last end : List ℕ)
    → front ++ (a ++ 46 ∷ (b ++ 46 ∷ (c ++ 46 ∷ (d ++ mark ∷ (last ++ end)))))
    ≡ front ++ a ++ (46 ∷ []) ++ b ++ (46 ∷ []) ++ c ++ (46 ∷ []) ++ d ++ (mark ∷ []) ++ last ++ end
numbers_flat front mark a b c d last end = sym (simp append_assoc)

-- two numbers, each behind a text
pub two_flat : (front a mid b end : List ℕ)
    → front ++ (a ++ (mid ++ (b ++ end))) ≡ front ++ a ++ mid ++ b ++ end
two_flat front a mid b end = sym (simp append_assoc)
