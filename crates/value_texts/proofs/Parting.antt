-- A text is parted at its first mark.
use Rattle.std.proofs.Common.{◌≡◌, ℕ, ◌+◌, ◌-◌, ◌<◌, ◌≤◌, ◌⊎◌, inl, inr, Bool, true, false, cond}
use Rattle.std.proofs.Common.{eqb, ltb, Option, Some, None, List, [], ◌∷◌, length, take, drop, sym}
use Rattle.std.proofs.Common.{ap, ◌∙◌, arith, rules, length-drop}
use Rattle.std.proofs.lemmas.Bool.{cases_lt}
use Rattle.std.proofs.lemmas.Bool.Decides.{nat_tests}
use Rattle.std.proofs.lemmas.List.{take_all, drop_all}
use Rattle.std.proofs.lemmas.List.Sums.{fails_before_first}
use Rattle.std.proofs.lemmas.List.Splits.{slice_split_none, slice_split_first}
use Rattle.std.specs.List.{slice_split, position_or_len}
use Rattle.value_texts.specs.Parts.{front_part, rest_part}

abbrev pub is_mark : ℕ → ℕ → Bool
is_mark mark c = eqb c mark

abbrev place_of : ℕ → List ℕ → ℕ
place_of mark text = position_or_len (is_mark mark) text

-- what a search for the mark answers
abbrev pub found_in : ℕ → List ℕ → Option ℕ
found_in mark text = cond (ltb (place_of mark text) (length text)) (Some (place_of mark text)) None

some_place : (n m place : ℕ) → cond (ltb n m) (Some n) None ≡ Some place → (place ≡ n) × (n < m)
some_place n m place e = elim (cases_lt n m) [
  | inl h ↦ let b : ltb n m ≡ true = search (rules, nat_tests) in
      let e' : Some n ≡ Some place = rw b at e in (cc e', h)
  | inr h ↦ let b : ltb n m ≡ false = search (rules, nat_tests) in
      let e' : ◌≡◌ {A = Option ℕ} None (Some place) = rw b at e in absurd (cc e')
]

no_place : (n m : ℕ) → cond (ltb n m) (Some n) None ≡ None → m ≤ n
no_place n m e = elim (cases_lt n m) [
  | inl h ↦ let b : ltb n m ≡ true = search (rules, nat_tests) in
      let e' : Some n ≡ None = rw b at e in absurd (cc e')
  | inr h ↦ h
]

pub front_found : (mark place : ℕ) (text : List ℕ) → found_in mark text ≡ Some place
    → take place text ≡ front_part mark text
front_found mark place text e = ap (λ n. take n text) (some_place _ _ place e).0

pub rest_found : (mark place : ℕ) (text : List ℕ) → found_in mark text ≡ Some place
    → take (length text - (place + 1)) (drop (place + 1) text) ≡ rest_part mark text
rest_found mark place text e =
    take_all (length text - (place + 1)) (drop (place + 1) text)
    (omega (arith, length-drop (place + 1) text))
    ∙ ap (λ n. drop (n + 1) text) (some_place _ _ place e).0

pub front_of_all : (mark : ℕ) (text : List ℕ) → found_in mark text ≡ None
    → text ≡ front_part mark text
front_of_all mark text e = sym (take_all (place_of mark text) text (no_place _ _ e))

pub rest_of_all : (mark : ℕ) (text : List ℕ) → found_in mark text ≡ None → [] ≡ rest_part mark text
rest_of_all mark text e =
    sym (drop_all (place_of mark text + 1) text (omega (arith, no_place _ _ e)))

-- the parts of a text are its front, and the parts of its rest, where there are any
pub split_step : (mark : ℕ) (text : List ℕ)
    → (slice_split (is_mark mark) text
    ≡ front_part mark text ∷ slice_split (is_mark mark) (rest_part mark text))
    ⊎ ((slice_split (is_mark mark) text ≡ front_part mark text ∷ []) × (rest_part mark text ≡ []))
split_step mark text = elim (cases_lt (place_of mark text) (length text)) [
  | inl h ↦ inl (slice_split_first (is_mark mark) text 0 h)
  | inr h ↦ inr (
    slice_split_none (is_mark mark) text
        (λ k d b. fails_before_first (is_mark mark) text k d (omega arith))
        ∙ ap (λ front. front ∷ []) (sym (take_all (place_of mark text) text h)),
    drop_all (place_of mark text + 1) text (omega arith),
  )
]

pub rest_shorter : (mark : ℕ) (text : List ℕ) → 0 < length text
    → length (rest_part mark text) < length text
rest_shorter mark text some = omega (arith, length-drop (place_of mark text + 1) text)
