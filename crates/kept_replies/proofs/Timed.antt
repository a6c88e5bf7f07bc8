-- What changes of the rows do to the moments at which they are due.
use Rattle.std.proofs.Common.{◌≡◌, ◌≢◌, ℕ, zero, suc, ◌+◌, ◌-◌, ◌<◌, ◌≤◌, Bool, true, false, List}
use Rattle.std.proofs.Common.{[], ◌∷◌, length, take, refl, sym, ◌∙◌, ap, subst, cond, Some, None}
use Rattle.std.proofs.Common.{Option, arith, get_or}
use Rattle.std.proofs.Math.ListN.{set}
use Rattle.std.specs.Prelude.{slice_get, swap_remove, position}
use Rattle.std.specs.List.{position_from}
use Rattle.std.specs.Map.{keys_of, set_value}
use Rattle.std.specs.Option.{option_and_then}
use Rattle.std.specs.FinMap as fin
use Rattle.std.specs.FinMap.{nat_cmp-IsAntisymmetric}
use Rattle.std.specs.Cmp.{nat_cmp_total}
use Rattle.std.proofs.lemmas.Iterator.Adapters.{position_from-zero}
use Rattle.std.proofs.lemmas.Option.{slice_get_past, slice_get-get_or}
use Rattle.keyed.specs.Maps.{Changed}
use Rattle.keyed.specs.Places.{row_in}
use Rattle.std.proofs.Math.Dec.{ltb}
use Rattle.std.proofs.lemmas.Bool.Decides.{Decides-ltb}
use Rattle.keyed.proofs.Decide.{some_none, same_some, by_place, by_test}
use Rattle.keyed.proofs.Maps.{Changed-remove}
use Rattle.keyed.proofs.Rows.{Changed-set}
use Rattle.deadlines.specs.Deadlines.{Moments, renamed}
use Rattle.deadlines.proofs.Renamed.{renamed_same, get_renamed_to, get_renamed_from}
use Rattle.deadlines.proofs.Renamed.{get_renamed_other}
use Rattle.kept_replies.specs.inside.Due.{AreDueAt, moved}

-- what stands last takes another place
pub record Moved {A : Type 0} (before after : ℕ → Option A) (place last : ℕ) : Type 0 where
  pub here : place ≢ last → after place ≡ before last
  pub gone : after last ≡ None
  pub others : (j : ℕ) → j ≢ place → j ≢ last → after j ≡ before j

module _ {X : Type 0} where
  get_take : (xs : List X) (n j : ℕ) → j < n → slice_get (take n xs) j ≡ slice_get xs j
  get_take xs zero j h = absurd (omega (arith, h))
  get_take [] (suc n) j h = refl
  get_take (x ∷ xs) (suc n) zero h = refl
  get_take (x ∷ xs) (suc n) (suc j) h = get_take xs n j (omega (arith, h))

  get_take_past : (xs : List X) (n j : ℕ) → n ≤ j → slice_get (take n xs) j ≡ None
  get_take_past xs zero j h = refl
  get_take_past [] (suc n) j h = refl
  get_take_past (x ∷ xs) (suc n) zero h = absurd (omega (arith, h))
  get_take_past (x ∷ xs) (suc n) (suc j) h = get_take_past xs n j (omega (arith, h))

  pub Moved-rows : (xs : List X) (i last : ℕ) (d : X) → length xs ≡ last + 1 → i < length xs
      → Moved (row_in xs) (row_in (swap_remove xs i d)) i last
  Moved-rows xs i last d count within =
      let n : length xs - 1 ≡ last = omega (arith, count) in
      let is : swap_remove xs i d ≡ take last (set xs i (get_or xs last d)) =
      ap (λ k. take k (set xs i (get_or xs k d))) n in
      let c = Changed-set xs i (get_or xs last d) within in
      record {
        here = λ differ. ap (λ l. slice_get l i) is
            ∙ (get_take (set xs i (get_or xs last d)) last i (omega (arith, count, within, differ))
            ∙ (c.here ∙ sym (slice_get-get_or xs last d (omega (arith, count)))));
        gone = ap (λ l. slice_get l last) is
            ∙ get_take_past (set xs i (get_or xs last d)) last last (omega arith);
        others = λ j not_i not_last. ap (λ l. slice_get l j) is
            ∙ by_below xs i last d j count not_last (c.others j not_i);
      } where
        by_below : (xs : List X) (i last : ℕ) (d : X) (j : ℕ) → length xs ≡ last + 1 → j ≢ last
            → slice_get (set xs i (get_or xs last d)) j ≡ slice_get xs j
            → slice_get (take last (set xs i (get_or xs last d))) j ≡ slice_get xs j
        by_below xs i last d j count differ same =
            by_test (ltb j last) (Decides-ltb j last)
            (slice_get (take last (set xs i (get_or xs last d))) j ≡ slice_get xs j)
            (λ below. get_take (set xs i (get_or xs last d)) last j below ∙ same)
            (λ above. get_take_past (set xs i (get_or xs last d)) last j (omega (arith, above))
            ∙ sym (slice_get_past xs j (omega (arith, above, count, differ))))

-- the moments of places, if what stands last takes another place
pub Moved-moments : (m : Moments) (place last : ℕ)
    → Moved (fin.get m) (fin.get (moved m place last)) place last
Moved-moments m place last =
    let out = Changed-remove nat_cmp_total nat_cmp-IsAntisymmetric m place in
    record {
      here = λ differ. get_renamed_to (fin.remove m place) last place
          ∙ out.others last (λ e. differ (sym e));
      gone = by_place last place (fin.get (moved m place last) last ≡ None)
          (λ e. ap (λ k. fin.get (renamed (fin.remove m place) last k) last) (sym e)
          ∙ (ap (λ x. fin.get x last) (sym (renamed_same (fin.remove m place) last))
          ∙ (ap (λ k. fin.get (fin.remove m place) k) e ∙ out.here)))
          (λ differ. get_renamed_from (fin.remove m place) last place differ);
      others = λ j not_place not_last.
          get_renamed_other (fin.remove m place) last place j not_last not_place
          ∙ out.others j not_place;
    }

module _ {X : Type 0} (moment : X → Option ℕ) where
  pub AreDueAt-empty : (m : Moments) → m ≡ fin.empty → AreDueAt moment [] m
  AreDueAt-empty m is = record {
    due = λ i. ap (λ (n : Moments). fin.get n i) is
        ∙ (fin.get-empty _ i
        ∙ ap (option_and_then moment) (sym (slice_get_past {X = X} [] i (omega arith))));
  }

  -- the moment of one place is written, and so is its row
  pub AreDueAt-changed : (rows next : List X) (m n : Moments) (place : ℕ) (row : X)
      → AreDueAt moment rows m → Changed (row_in rows) (row_in next) place (Some row)
      → Changed (fin.get m) (fin.get n) place (moment row) → AreDueAt moment next n
  AreDueAt-changed rows next m n place row h c d = record {
    due = λ i. by_place i place (fin.get n i ≡ option_and_then moment (slice_get next i))
        (λ e. ap (fin.get n) e
        ∙ (d.here
        ∙ (ap (option_and_then moment) (sym c.here)
        ∙ ap (λ k. option_and_then moment (slice_get next k)) (sym e))))
        (λ differ. d.others i differ
        ∙ (h.due i ∙ ap (option_and_then moment) (sym (c.others i differ))));
  }

  -- what stands last takes another place, and so does its moment
  pub AreDueAt-moved : (rows next : List X) (m n : Moments) (place last : ℕ)
      → AreDueAt moment rows m → Moved (row_in rows) (row_in next) place last
      → Moved (fin.get m) (fin.get n) place last → AreDueAt moment next n
  AreDueAt-moved rows next m n place last h c d = record {
    due = λ i. by_place i last (fin.get n i ≡ option_and_then moment (slice_get next i))
        (λ e. ap (fin.get n) e
        ∙ (d.gone
        ∙ (ap (option_and_then moment) (sym c.gone)
        ∙ ap (λ k. option_and_then moment (slice_get next k)) (sym e))))
        (λ not_last. by_place i place (fin.get n i ≡ option_and_then moment (slice_get next i))
        (λ e. ap (fin.get n) e
        ∙ (d.here (λ p. not_last (e ∙ p))
        ∙ (h.due last
        ∙ (ap (option_and_then moment) (sym (c.here (λ p. not_last (e ∙ p))))
        ∙ ap (λ k. option_and_then moment (slice_get next k)) (sym e)))))
        (λ differ. d.others i differ not_last
        ∙ (h.due i ∙ ap (option_and_then moment) (sym (c.others i differ not_last)))));
  }

-- a value is written at the place that a search by key finds
module _ {K V : Type 0} (test : K → Bool) (w : V) where
  later : (e : K × V) (es fs : List (K × V)) (j : ℕ) (v : Option (K × V))
      → Changed (row_in es) (row_in fs) j v → Changed (row_in (e ∷ es)) (row_in (e ∷ fs)) (suc j) v
  later e es fs j v c = record { here = c.here; others = elsewhere } where
    elsewhere : (i : ℕ) → i ≢ suc j → slice_get (e ∷ fs) i ≡ slice_get (e ∷ es) i
    elsewhere zero differ = refl
    elsewhere (suc i) differ = c.others i (λ p. differ (ap suc p))

  written_from : (es : List (K × V)) (k i : ℕ) → position_from test k (keys_of es) ≡ Some i
      → (j : ℕ) × (i ≡ k + j) × (q : K)
      × Changed (row_in es) (row_in (set_value test es w)) j (Some (q, w))
  written_from [] k i is = some_none (sym is)
  written_from (e ∷ es) k i is = cases (written_from es (k + 1) i) (test e.0) is where
    cases : (position_from test (k + 1) (keys_of es) ≡ Some i
        → (j : ℕ) × (i ≡ k + 1 + j) × (q : K)
        × Changed (row_in es) (row_in (set_value test es w)) j (Some (q, w)))
        → (b : Bool) → cond b (Some k) (position_from test (k + 1) (keys_of es)) ≡ Some i
        → (j : ℕ) × (i ≡ k + j) × (q : K)
        × Changed (row_in (e ∷ es)) (row_in (cond b ((e.0, w) ∷ es) (e ∷ set_value test es w)))
        j (Some (q, w))
    cases rest true is =
        (let same = same_some k i is in
        (zero, omega (arith, same), e.0, Changed-set (e ∷ es) zero (e.0, w) (omega arith)))
    cases rest false is =
        (let found = rest is in (
          suc found.0,
          omega (arith, found.1),
          found.2,
          later e es (set_value test es w) found.0 (Some (found.2, w)) found.3,
        ))

  pub Changed-written : (es : List (K × V)) (i : ℕ) → position test (keys_of es) ≡ Some i
      → (q : K) × Changed (row_in es) (row_in (set_value test es w)) i (Some (q, w))
  Changed-written es i is =
      let found = written_from es 0 i (sym (position_from-zero test (keys_of es)) ∙ is) in
      let at : found.0 ≡ i = omega (arith, found.1) in (
        found.2,
        subst (λ (j : ℕ). Changed (row_in es) (row_in (set_value test es w)) j
            (Some (found.2, w))) at found.3,
      )
