-- Readings of a zone, and the rows that were taken of them.
use Rattle.std.proofs.Common.{◌≡◌, ◌∙◌, sym, ap, subst, refl, arith, ℕ, ◌-◌, ◌^◌, ◌<◌, ◌⊎◌, inl, inr}
use Rattle.std.proofs.Common.{List, [], ◌∷◌, ◌++◌, length, append_assoc, length-append, Some, None}
use Rattle.std.proofs.lemmas.Grind.{flat_map-append}
use Rattle.std.proofs.lemmas.List.{append-nil, reverse-append}
use Rattle.std.specs.List.{flat_map}
use Rattle.std.specs.Prelude.{reverse}
use Rattle.status_page.specs.Lists.{AreAllRead, AreReadings, IsNextOf, IsReading}

-- readings that had rows, from a place down to where the following one is made
abbrev pub AreFirstReadings : {A : Type 0} → (ℕ → List A → ℕ → Type 0) → ℕ → List (List A) → ℕ → Type 0
AreFirstReadings Below place [] now = place ≡ now
AreFirstReadings Below place (rows ∷ others) now = (0 < length rows)
    × ((following : ℕ) × IsReading Below place rows following × AreFirstReadings Below following others now)

-- the rows that were taken, and those of the last reading that are left, are all that were read so
-- far; the following reading is made below this place
abbrev pub AreTaken : {A : Type 0} → (ℕ → List A → ℕ → Type 0) → ℕ → List A → List A → Type 0
AreTaken Below place left taken = (readings : List (List _))
    × AreFirstReadings Below (2 ^ 64 - 1) readings place
    × (taken ++ reverse left ≡ flat_map reverse readings)

module _ {A : Type 0} (Below : ℕ → List A → ℕ → Type 0) where
  one_more : (readings : List (List A)) (place now : ℕ) (rows : List A) (following : ℕ)
      → AreFirstReadings Below place readings now → 0 < length rows → IsReading Below now rows following
      → AreFirstReadings Below place (readings ++ rows ∷ []) following
  one_more [] place now rows following is some reading =
      let P : ℕ → Type 0 = λ place. IsReading Below place rows following in
      (some, (following, subst P (sym is) reading, refl))
  one_more (first ∷ others) place now rows following is some reading =
      (is.0, (is.1.0, is.1.1, one_more others is.1.0 now rows following is.1.2 some reading))

  -- no more readings: the first ones are all
  no_more : (readings : List (List A)) (place now : ℕ) → AreFirstReadings Below place readings now
      → (now ≡ 0) ⊎ ((following : ℕ) × IsReading Below now [] following) → AreReadings Below place readings
  no_more [] place now is end =
      let P : ℕ → Type 0 = λ place. (place ≡ 0) ⊎ ((following : ℕ) × IsReading Below place [] following) in
      subst P (sym is) end
  no_more (first ∷ others) place now is end = (is.0, (is.1.0, is.1.1, no_more others is.1.0 now is.1.2 end))

  -- the last row that is left is the next one that is taken
  next_row : (taken left : List A) (row : A)
      → taken ++ reverse (left ++ row ∷ []) ≡ (taken ++ row ∷ []) ++ reverse left
  next_row taken left row =
      ap (λ rows. taken ++ rows) (reverse-append left (row ∷ [])) ∙ sym (append_assoc taken (row ∷ []) (reverse left))

  -- one more reading, of which no row was taken yet
  read_more : (taken : List A) (readings : List (List A)) (rows : List A)
      → taken ≡ flat_map reverse readings → taken ++ reverse rows ≡ flat_map reverse (readings ++ rows ∷ [])
  read_more taken readings rows is =
      ap (λ taken. taken ++ reverse rows) is
      ∙ (ap (λ last. flat_map reverse readings ++ last) (sym (append-nil (reverse rows)))
      ∙ sym (flat_map-append reverse readings (rows ∷ [])))

  pub one_taken : (place : ℕ) (left : List A) (new_place : ℕ) (new_left : List A) (taken : List A) (row : A)
      → AreTaken Below place left taken → IsNextOf Below place left new_place new_left (Some row)
      → AreTaken Below new_place new_left (taken ++ row ∷ [])
  one_taken place left new_place new_left taken row before (inl next) =
      let P : ℕ → Type 0 = λ place. AreFirstReadings Below (2 ^ 64 - 1) before.0 place in (
        before.0,
        subst P (sym next.0) before.1,
        sym (next_row taken new_left row) ∙ (ap (λ left. taken ++ reverse left) (sym next.1) ∙ before.2),
      )
  one_taken place left new_place new_left taken row before (inr next) =
      let rows : List A = new_left ++ row ∷ [] in
      let all : taken ≡ flat_map reverse before.0 =
      sym (append-nil taken) ∙ (ap (λ left. taken ++ reverse left) (sym next.0) ∙ before.2) in (
        before.0 ++ rows ∷ [],
        one_more before.0 (2 ^ 64 - 1) place rows new_place before.1 (omega (arith, length-append new_left (row ∷ []))) next.1,
        sym (next_row taken new_left row) ∙ read_more taken before.0 rows all,
      )

  pub all_taken : (place : ℕ) (left : List A) (new_place : ℕ) (new_left : List A) (taken : List A)
      → AreTaken Below place left taken → IsNextOf Below place left new_place new_left None
      → AreAllRead Below taken
  all_taken place left new_place new_left taken before end = (
    before.0,
    no_more before.0 (2 ^ 64 - 1) place before.1 (last end.1),
    sym (append-nil taken) ∙ (ap (λ left. taken ++ reverse left) (sym end.0) ∙ before.2),
  )
    where
      last : (place ≡ 0) ⊎ IsReading Below place [] new_place
          → (place ≡ 0) ⊎ ((following : ℕ) × IsReading Below place [] following)
      last (inl lowest) = inl lowest
      last (inr reading) = inr (new_place, reading)
