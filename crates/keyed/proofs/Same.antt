-- Two lists of rows make the same map if and only if each has what the other has.
use Rattle.std.proofs.Common.{◌≡◌, ◌&&◌, ◌↔◌, Bool, false}
use Rattle.std.proofs.Common.{List, get_or, refl, sym}
use Rattle.std.proofs.Common.{◌∙◌, ap, Some, None}
use Rattle.std.specs.Prelude.{All, IsTrue, Option}
use Rattle.std.specs.Cmp.{IsTotalOrder}
use Rattle.std.specs.declared.cmp.Ordering.{Ordering}
use Rattle.std.specs.FinMap as fin
use Rattle.std.specs.FinMap.{FinMap, IsAntisymmetric}
use Rattle.std.proofs.lemmas.Bool.{and_parts, and_from}
use Rattle.std.proofs.lemmas.Option.{get_or_from_slice_get, slice_get-get_or, slice_get_within}
use Rattle.std.proofs.Common.{subst}
use Rattle.keyed.proofs.Decide.{some_none, same_some}
use Rattle.std.specs.Bool.{Decides}
use Rattle.keyed.specs.Places.{row_in}
use Rattle.keyed.proofs.Places.{IsMapOf}

module _ {K V X : Type 0} {R : K → K → Ordering} (o : IsTotalOrder R) (same : IsAntisymmetric R)
    (key : X → K) (value : X → V) where
  -- the map has this row
  abbrev pub IsRow : FinMap R V → X → Type 0
  IsRow m r = fin.get m (key r) ≡ Some (value r)

  -- each row of a list is in the map of that list
  all_own : (rows : List X) (m : FinMap R V) → IsMapOf key value (row_in rows) m
      → All (IsRow m) rows
  all_own rows m own k d below =
      own.has k (get_or rows k d) (slice_get-get_or rows k d below)

  -- a map that has each of these rows has all that their own map has
  carried : (rows : List X) (m n : FinMap R V) → IsMapOf key value (row_in rows) m
      → All (IsRow n) rows
      → (q : K) (v : V) → fin.get m q ≡ Some v → fin.get n q ≡ Some v
  carried rows m n own all q v e =
      let s = own.stands q v e in
      let below = slice_get_within rows s.0 s.1 s.2.there in
      let is = get_or_from_slice_get rows s.0 s.1 s.1 s.2.there in
      ap (fin.get n) (sym s.2.key_is)
      ∙ (subst (IsRow n) is (all s.0 s.1 below) ∙ ap Some s.2.value_is)

  each_other : (rows others : List X) (m n : FinMap R V)
      → IsMapOf key value (row_in rows) m → IsMapOf key value (row_in others) n
      → All (IsRow m) others → All (IsRow n) rows → m ≡ n
  each_other rows others m n own own' has had =
      fin.same_map o same m n (λ q. cases q (fin.get m q) (fin.get n q) refl refl) where
        cases : (q : K) (x y : Option V) → fin.get m q ≡ x → fin.get n q ≡ y
            → fin.get m q ≡ fin.get n q
        cases q (Some v) y p e = p ∙ sym (carried rows m n own had q v p)
        cases q None (Some v) p e = some_none (sym (carried others n m own' has q v e) ∙ p)
        cases q None None p e = p ∙ sym e

  -- so two tests, of each list for the rows of the other, tell whether the maps are the same
  pub both_have : (rows others : List X) (m n : FinMap R V)
      → IsMapOf key value (row_in rows) m → IsMapOf key value (row_in others) n → (a b : Bool)
      → (IsTrue a ↔ All (IsRow m) others) → (IsTrue b ↔ All (IsRow n) rows)
      → IsTrue (a && b) ↔ (m ≡ n)
  both_have rows others m n own own' a b first second = (
    λ h.
        (let both = and_parts a b h in
        each_other rows others m n own own' (first.0 both.0) (second.0 both.1)),
    λ e. and_from a b
        (first.1 (subst (λ m. All (IsRow m) others) (sym e) (all_own others n own')))
        (second.1 (subst (λ m. All (IsRow m) rows) e (all_own rows m own))),
  )

  -- and if one of them fails, the maps differ
  pub one_lacks : (others : List X) (m n : FinMap R V) → IsMapOf key value (row_in others) n
      → (a : Bool) → (IsTrue a ↔ All (IsRow m) others) → a ≡ false → IsTrue a ↔ (m ≡ n)
  one_lacks others m n own' a first fails = (
    λ h. absurd (cc (sym fails ∙ h)),
    λ e. first.1 (subst (λ m. All (IsRow m) others) (sym e) (all_own others n own')),
  )

-- a test of equality tells whether the value that was found under a key is this one
pub found_decides : {V : Type 0} (test : Bool) (found value : V) (looked_up : Option V)
    → Decides test (found ≡ value) → Some found ≡ looked_up
    → IsTrue test ↔ (looked_up ≡ Some value)
found_decides test found value looked_up decides is =
    (λ h. sym is ∙ ap Some (decides.0 h), λ e. decides.1 (same_some found value (is ∙ e)))
