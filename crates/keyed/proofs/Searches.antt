-- What a search of the rows by their keys finds.
use Rattle.std.proofs.Common.{◌≡◌, ℕ, zero, suc, ◌+◌, ◌<◌, Bool, true, false, List, [], ◌∷◌, length}
use Rattle.std.proofs.Common.{refl, sym, ◌∙◌, ap, subst, cond, Some, None, arith}
use Rattle.std.specs.Prelude.{Option, slice_get, position, MatchOption}
use Rattle.std.specs.Option.{option_map, IsSomeAnd}
use Rattle.std.specs.List.{position_from, find as find_first}
use Rattle.std.proofs.lemmas.Iterator.Adapters.{position_from-zero}
use Rattle.std.proofs.lemmas.Option.{slice_get_within}
use Rattle.std.proofs.lemmas.Bool.Decides.{same_from_decides}
use Rattle.std.specs.Bool.{Decides}
use Rattle.std.specs.Cmp.{IsTotalOrder}
use Rattle.std.specs.declared.cmp.Ordering.{Ordering}
use Rattle.std.specs.Ordering.{eq_by_cmp}
use Rattle.std.specs.FinMap as fin
use Rattle.std.specs.FinMap.{IsAntisymmetric}
use Rattle.keyed.specs.Places.{map_of, entries_of, IsPlaceOf}
use Rattle.keyed.proofs.Maps.{key_decides}

-- the row at the place of a key
pub placed_row : {K X : Type 0} (key : X → K) (k : K) (rows : List X) (i : ℕ)
    → IsPlaceOf key k rows i
    → (r : X) × (slice_get rows i ≡ Some r) × (key r ≡ k)
placed_row {K} {X} key k rows i h = cases (slice_get rows i) refl h where
  cases : (w : Option X) → slice_get rows i ≡ w → IsSomeAnd w (λ r. key r ≡ k)
      → (r : X) × (slice_get rows i ≡ Some r) × (key r ≡ k)
  cases None is h = absurd h
  cases (Some r) is h = (r, is, h)

pub place_below : {K X : Type 0} (key : X → K) (k : K) (rows : List X) (i : ℕ)
    → IsPlaceOf key k rows i → i < length rows
place_below key k rows i h =
    let row = placed_row key k rows i h in
    slice_get_within rows i row.0 row.1

module _ {K V X : Type 0} {R : K → K → Ordering} (o : IsTotalOrder R) (same : IsAntisymmetric R)
    (key : X → K) (value : X → V)
    (test : K → K → Bool) (decides : (x q : K) → Decides (test x q) (x ≡ q)) where
  one_test : (q x : K) → eq_by_cmp R q x ≡ test x q
  one_test q x =
      let d : Decides (test x q) (q ≡ x) =
      (λ e. sym ((decides x q).0 e), λ e. (decides x q).1 (sym e)) in
      same_from_decides _ _ (key_decides o same q x) d

  abbrev has_key : K → X → Bool
  has_key q r = test (key r) q

  entry_named : (q : K) (rows : List X)
      → option_map value (find_first (has_key q) rows) ≡ fin.find R q (entries_of key value rows)
  entry_named q [] = refl
  entry_named q (r ∷ rows) = cases (entry_named q rows) (test (key r) q) (one_test q (key r)) where
    cases : option_map value (find_first (has_key q) rows)
        ≡ fin.find R q (entries_of key value rows)
        → (b : Bool) → eq_by_cmp R q (key r) ≡ b
        → option_map value (cond b (Some r) (find_first (has_key q) rows)) ≡ cond
        (eq_by_cmp R q (key r)) (Some (value r)) (fin.find R q (entries_of key value rows))
    cases rest true is =
        sym (ap (λ t. cond t (Some (value r)) (fin.find R q (entries_of key value rows))) is)
    cases rest false is = rest ∙ sym
        (ap (λ t. cond t (Some (value r)) (fin.find R q (entries_of key value rows))) is)

  -- the first row with a key has the value that the map has under that key
  pub find_key : (q : K) (rows : List X)
      → option_map value (find_first (has_key q) rows) ≡ fin.get (map_of {R = R} key value rows) q
  find_key q rows = entry_named q rows ∙ sym (fin.get-from_entries o (entries_of key value rows) q)

  abbrev PlaceFrom : K → List X → ℕ → Option ℕ → Type 0
  PlaceFrom q rows k None = find_first (has_key q) rows ≡ None
  PlaceFrom q rows k (Some i) = (j : ℕ) × (i ≡ k + j) × IsPlaceOf key q rows j

  further : (q : K) (r : X) (rows : List X) (k : ℕ) (w : Option ℕ) → test (key r) q ≡ false
      → PlaceFrom q rows (k + 1) w → PlaceFrom q (r ∷ rows) k w
  further q r rows k None fails h = ap (λ b. cond b (Some r) (find_first (has_key q) rows)) fails
      ∙ h
  further q r rows k (Some i) fails h = (suc h.0, omega (arith, h.1), h.2)

  place_from : (q : K) (rows : List X) (k : ℕ)
      → PlaceFrom q rows k (position_from (has_key q) k rows)
  place_from q [] k = refl
  place_from q (r ∷ rows) k = cases (place_from q rows (k + 1)) (test (key r) q) refl where
    cases : PlaceFrom q rows (k + 1) (position_from (has_key q) (k + 1) rows) → (b : Bool)
        → test (key r) q ≡ b
        → PlaceFrom q (r ∷ rows) k (cond b (Some k) (position_from (has_key q) (k + 1) rows))
    cases rest true is = (zero, omega arith, (decides (key r) q).0 is)
    cases rest false is = further q r rows k (position_from (has_key q) (k + 1) rows) is rest

  place_zero : (q : K) (rows : List X) (w : Option ℕ) → PlaceFrom q rows 0 w
      → MatchOption w (fin.get (map_of {R = R} key value rows) q ≡ None) (IsPlaceOf key q rows)
  place_zero q rows None h = sym (find_key q rows) ∙ ap (option_map value) h
  place_zero q rows (Some i) h = let at : i ≡ h.0 = omega (arith, h.1) in subst
      (IsPlaceOf key q rows) (sym at) h.2

  -- the place that a search by a key finds
  pub key_place : (q : K) (rows : List X) → MatchOption (position (has_key q) rows)
      (fin.get (map_of {R = R} key value rows) q ≡ None) (IsPlaceOf key q rows)
  key_place q rows = place_zero q rows _
      (subst (PlaceFrom q rows 0) (sym (position_from-zero (has_key q) rows)) (place_from q rows 0))
