-- A walk over the rows of a slab: which of them are left, and what holds of those that are passed.
use Rattle.std.proofs.Common.{◌≡◌, ◌⊎◌, ℕ, List, [], ◌∷◌, length, sym, ap, subst, Some, Contains}
use Rattle.std.proofs.Common.{arith}
use Rattle.std.proofs.Common.{inl, inr, refl}
use Rattle.slab.specs.Slab.{Slab, get, entries}
use Rattle.slab.proofs.SlabLemmas.{Contains-entries}
use Rattle.keyed.proofs.Decide.{Contains-later, Contains-parts}

-- each row that is left stands in the slab, and each that stands there is left or was passed
pub record Walks {X : Type 0} (rows : Slab X) (left : List (ℕ × X)) (Passed : X → Type 0) : Type 0
  where
    pub stands : (place : ℕ) (r : X) → Contains left (place, r) → get rows place ≡ Some r
    pub left_or_passed : (place : ℕ) (r : X) → get rows place ≡ Some r
        → Contains left (place, r) ⊎ Passed r

module _ {X : Type 0} (rows : Slab X) (Passed : X → Type 0) where
  pub Walks-first : (left : List (ℕ × X)) → left ≡ entries rows → Walks rows left Passed
  Walks-first left is = record {
    stands = λ place r h. (Contains-entries rows place r).0
        (subst (λ (l : List (ℕ × X)). Contains l (place, r)) is h);
    left_or_passed = λ place r there. inl (subst (λ (l : List (ℕ × X)). Contains l (place, r))
        (sym is) ((Contains-entries rows place r).1 there));
  }

  module _ (left next : List (ℕ × X)) (place : ℕ) (r : X) (w : Walks rows left Passed)
      (step : left ≡ (place, r) ∷ next) where
    pub row_of_step : get rows place ≡ Some r
    row_of_step = w.stands place r (subst (λ (l : List (ℕ × X)). Contains l (place, r)) (sym step)
        (0, omega arith, refl))

    pub Walks-next : Passed r → Walks rows next Passed
    Walks-next passed = record {
      stands = λ p s h. w.stands p s (subst (λ (l : List (ℕ × X)). Contains l (p, s)) (sym step)
          (Contains-later (place, r) next (p, s) h));
      left_or_passed = λ p s there. parts p s (w.left_or_passed p s there);
    } where
      parts : (p : ℕ) (s : X) → Contains left (p, s) ⊎ Passed s → Contains next (p, s) ⊎ Passed s
      parts p s (inr before) = inr before
      parts p s (inl h) = Contains-parts (place, r) next (p, s) (Contains next (p, s) ⊎ Passed s)
          (subst (λ (l : List (ℕ × X)). Contains l (p, s)) step h)
          (λ is. inr (subst Passed (ap (λ e. e.1) is) passed)) (λ later. inl later)

  pub all_passed : (left : List (ℕ × X)) → left ≡ [] → Walks rows left Passed → (place : ℕ) (r : X)
      → get rows place ≡ Some r → Passed r
  all_passed left end w place r there = last (w.left_or_passed place r there) where
    last : Contains left (place, r) ⊎ Passed r → Passed r
    last (inr passed) = passed
    last (inl h) = absurd (omega (arith, h.1, ap (λ l. length l) end))
