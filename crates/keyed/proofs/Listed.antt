-- The list of a finite map has each of its rows once. So a map by another part of the rows is the
-- same, whether it is made from this list or from the rows as they are stored.
use Rattle.std.proofs.Common.{◌≡◌, ℕ, zero, suc, List, [], ◌∷◌, refl, sym, ◌∙◌, ap, subst, Some}
use Rattle.std.proofs.Common.{None, Option}
use Rattle.std.specs.Prelude.{slice_get, T}
use Rattle.std.specs.Cmp.{IsTotalOrder}
use Rattle.std.specs.declared.cmp.Ordering.{Ordering}
use Rattle.std.specs.FinMap as fin
use Rattle.std.specs.FinMap.{FinMap, IsAntisymmetric}
use Rattle.std.specs.FinMap.Entries.{is_sorted}
use Rattle.keyed.specs.Places.{AreApart, row_in, map_of}
use Rattle.keyed.proofs.Decide.{some_none, same_some}
use Rattle.keyed.proofs.Entries.{key_of, value_of, entries_again}
use Rattle.keyed.proofs.Maps.{find_below, first, second}
use Rattle.keyed.proofs.Places.{IsMapOf}
use Rattle.keyed.proofs.Rows.{IsMapOf-rows}

pub one_pair : {K V : Type 0} (r s : K × V) → r.0 ≡ s.0 → r.1 ≡ s.1 → r ≡ s
one_pair r s k v = λ i. (k i, v i)

module _ {K V : Type 0} {R : K → K → Ordering} (o : IsTotalOrder R) (same : IsAntisymmetric R) where
  -- rows with keys of their own, and the map that they make
  pub IsMapOf-pairs : (es : List (K × V)) → AreApart key_of (row_in es)
      → IsMapOf key_of value_of (row_in es) (fin.from_entries {R = R} es)
  IsMapOf-pairs es h =
      subst (λ (l : List (K × V)). IsMapOf key_of value_of (row_in es) (fin.from_entries {R = R} l))
      (entries_again es) (IsMapOf-rows o same key_of value_of es h)

  AreApart-sorted : (es : List (K × V)) → T (is_sorted R es) → AreApart key_of (row_in es)
  AreApart-sorted [] h = record { apart = λ i j r s p q e. some_none (sym p) }
  AreApart-sorted (x ∷ es) h =
      let rest = AreApart-sorted es (second _ _ h) in
      record { apart = places rest } where
        differ : AreApart key_of (row_in es) → (j : ℕ) (s : K × V) → slice_get es j ≡ Some s
            → x.0 ≡ s.0 → ⊥
        differ rest j s there e =
            let has = (IsMapOf-pairs es rest).has j s there in
            let is = sym (fin.get-from_entries o es s.0) ∙ has in
            some_none (sym is
            ∙ (ap (λ k. fin.find R k es) (sym e) ∙ find_below R x.0 es (first _ _ h)))

        places : AreApart key_of (row_in es) → (i j : ℕ) (r s : K × V)
            → slice_get (x ∷ es) i ≡ Some r → slice_get (x ∷ es) j ≡ Some s → r.0 ≡ s.0 → i ≡ j
        places rest zero zero r s p q e = refl
        places rest zero (suc j) r s p q e =
            absurd (differ rest j s q (ap key_of (same_some x r p) ∙ e))
        places rest (suc i) zero r s p q e =
            absurd (differ rest i r p (ap key_of (same_some x s q) ∙ sym e))
        places rest (suc i) (suc j) r s p q e = ap suc (rest.apart i j r s p q e)

  pub AreApart-listed : (m : FinMap R V) → AreApart key_of (row_in (fin.entries m))
  AreApart-listed m = AreApart-sorted (fin.entries m) (fin.entries_sorted m)

  pub from_listed : (m : FinMap R V) → fin.from_entries {R = R} (fin.entries m) ≡ m
  from_listed m = fin.same_map o same (fin.from_entries (fin.entries m)) m
      (λ q. fin.get-from_entries o (fin.entries m) q ∙ sym (fin.get-entries m q))

  pub IsMapOf-listed : (m : FinMap R V) → IsMapOf key_of value_of (row_in (fin.entries m)) m
  IsMapOf-listed m =
      subst (λ (n : FinMap R V). IsMapOf key_of value_of (row_in (fin.entries m)) n) (from_listed m)
      (IsMapOf-pairs (fin.entries m) (AreApart-listed m))

  module _ {A : Type 0} {P : A → A → Ordering} (p : IsTotalOrder P) (once : IsAntisymmetric P)
      (part : K × V → A) where
    -- the rows of a map; no two of them agree in a part
    pub AreApart-part : (m : FinMap R V)
        → ((k q : K) (v w : V) → fin.get m k ≡ Some v → fin.get m q ≡ Some w
        → part (k, v) ≡ part (q, w) → k ≡ q)
        → (rows : List (K × V)) → AreApart key_of (row_in rows)
        → IsMapOf key_of value_of (row_in rows) m → AreApart part (row_in rows)
    AreApart-part m differ rows h of = record {
      apart = λ i j r s a b e. h.apart i j r s a b
          (differ r.0 s.0 r.1 s.1 (of.has i r a) (of.has j s b) e);
    }

    -- one row of the map that their parts make
    pub by_part : (m : FinMap R V) (rows : List (K × V)) → AreApart part (row_in rows)
        → IsMapOf key_of value_of (row_in rows) m
        → (k : K) (v : V) → fin.get m k ≡ Some v
        → fin.get (map_of {R = P} part (λ r. r) rows) (part (k, v)) ≡ Some (k, v)
    by_part m rows h of k v there =
        let s = of.stands k v there in
        let is = one_pair s.1 (k, v) s.2.key_is s.2.value_is in
        subst (λ (r : K × V). fin.get (map_of {R = P} part (λ r. r) rows) (part r) ≡ Some r) is
        ((IsMapOf-rows p once part (λ r. r) rows h).has s.0 s.1 s.2.there)

    pub has_part : (m : FinMap R V) (rows : List (K × V)) → AreApart part (row_in rows)
        → IsMapOf key_of value_of (row_in rows) m
        → (a : A) (r : K × V) → fin.get (map_of {R = P} part (λ r. r) rows) a ≡ Some r
        → (fin.get m r.0 ≡ Some r.1) × (part r ≡ a)
    has_part m rows h of a r there =
        let s = (IsMapOf-rows p once part (λ r. r) rows h).stands a r there in
        subst (λ (x : K × V). (fin.get m x.0 ≡ Some x.1) × (part x ≡ a)) s.2.value_is
        (of.has s.0 s.1 s.2.there, s.2.key_is)

    -- two lists of the rows of one map make one map by their parts
    pub one_by_part : (m : FinMap R V) (rows moved : List (K × V)) → AreApart part (row_in rows)
        → AreApart part (row_in moved) → IsMapOf key_of value_of (row_in rows) m
        → IsMapOf key_of value_of (row_in moved) m
        → map_of {R = P} part (λ r. r) rows ≡ map_of {R = P} part (λ r. r) moved
    one_by_part m rows moved h d of to =
        fin.same_map p once _ _
        (λ a. cases a (fin.get (map_of part (λ r. r) rows) a)
        (fin.get (map_of part (λ r. r) moved) a) refl refl) where
          over : (a : A) (r : K × V) → fin.get (map_of {R = P} part (λ r. r) rows) a ≡ Some r
              → fin.get (map_of {R = P} part (λ r. r) moved) a ≡ Some r
          over a r there =
              let s = has_part m rows h of a r there in
              subst (λ (x : A). fin.get (map_of {R = P} part (λ r. r) moved) x ≡ Some r) s.1
              (by_part m moved d to r.0 r.1 s.0)

          back : (a : A) (r : K × V) → fin.get (map_of {R = P} part (λ r. r) moved) a ≡ Some r
              → fin.get (map_of {R = P} part (λ r. r) rows) a ≡ Some r
          back a r there =
              let s = has_part m moved d to a r there in
              subst (λ (x : A). fin.get (map_of {R = P} part (λ r. r) rows) x ≡ Some r) s.1
              (by_part m rows h of r.0 r.1 s.0)

          cases : (a : A) (x y : Option (K × V)) → fin.get (map_of {R = P} part (λ r. r) rows) a ≡ x
              → fin.get (map_of {R = P} part (λ r. r) moved) a ≡ y
              → fin.get (map_of {R = P} part (λ r. r) rows) a
              ≡ fin.get (map_of {R = P} part (λ r. r) moved) a
          cases a (Some r) y f g = f ∙ sym (over a r f)
          cases a None (Some r) f g = some_none (sym (back a r g) ∙ f)
          cases a None None f g = f ∙ sym g
