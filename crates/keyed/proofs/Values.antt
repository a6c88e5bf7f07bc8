-- What holds of each row that a finite map has, holds of all its entries; searches, counts and
-- bounds over its rows.
use Rattle.std.proofs.Common.{◌||◌, ◌≡◌, ℕ, ◌*◌, ◌≤◌, Bool, true, false, List, [], ◌∷◌, length, map}
use Rattle.std.proofs.Common.{refl, sym, ◌∙◌, ap, subst, cond, Some, None, arith}
use Rattle.std.specs.Prelude.{T}
use Rattle.std.specs.List.{list_any, sum_by, find as find_first}
use Rattle.std.proofs.lemmas.Bool.{false_from_ne_true}
use Rattle.std.proofs.lemmas.List.Sums.{sum_by-cons}
use Rattle.std.specs.Cmp.{IsTotalOrder}
use Rattle.std.specs.declared.cmp.Ordering.{Ordering}
use Rattle.std.specs.Ordering.{eq_by_cmp}
use Rattle.std.specs.FinMap as fin
use Rattle.std.specs.FinMap.{FinMap, IsAntisymmetric}
use Rattle.std.specs.FinMap.Entries.{is_sorted}
use Rattle.keyed.specs.Maps.{total}
use Rattle.keyed.proofs.Decide.{by_test, some_none, same_some}
use Rattle.keyed.proofs.Maps.{itself, key_decides, find_below, first, second}

abbrev Each : {K X : Type 0} → (K → X → Type 0) → List (K × X) → Type 0
Each P [] = Unit {0}
Each P (e ∷ es) = P e.0 e.1 × Each P es

module _ {K X : Type 0} {R : K → K → Ordering} (o : IsTotalOrder R) (same : IsAntisymmetric R) where
  found_later : (e : K × X) (es : List (K × X)) (k : K) (r : X) → T (is_sorted R (e ∷ es))
      → fin.find R k es ≡ Some r → fin.find R k (e ∷ es) ≡ Some r
  found_later e es k r h there = by_test (eq_by_cmp R k e.0) (key_decides o same k e.0)
      (fin.find R k (e ∷ es) ≡ Some r)
      (λ p. some_none (sym there
      ∙ (ap (λ q. fin.find R q es) p ∙ find_below R e.0 es (first _ _ h))))
      (λ differ. ap (λ b. cond b (Some e.1) (fin.find R k es)) (false_from_ne_true
      (eq_by_cmp R k e.0) (λ t. differ ((key_decides o same k e.0).0 t))) ∙ there)

  each_entry : (P : K → X → Type 0) (es : List (K × X)) → T (is_sorted R es)
      → ((k : K) (r : X) → fin.find R k es ≡ Some r → P k r) → Each P es
  each_entry P [] h f = tt
  each_entry P (e ∷ es) h f = (
    f e.0 e.1 (ap (λ b. cond b (Some e.1) (fin.find R e.0 es)) (itself o same e.0)),
    each_entry P es (second _ _ h) (λ k r there. f k r (found_later e es k r h there)),
  )

  each_row : (P : K → X → Type 0) (m : FinMap R X)
      → ((k : K) (r : X) → fin.get m k ≡ Some r → P k r) → Each P (fin.entries m)
  each_row P m f = each_entry P (fin.entries m) (fin.entries_sorted m)
      (λ k r there. f k r (fin.get-entries m k ∙ there))

  -- a sum is bounded if each row's figure is
  pub total_le : (f : X → ℕ) (bound : ℕ) (m : FinMap R X)
      → ((k : K) (r : X) → fin.get m k ≡ Some r → f r ≤ bound) → total f m ≤ bound * fin.len m
  total_le f bound m each = subst (λ n. total f m ≤ bound * n) (sym (fin.len-entries m))
      (sum_le (fin.entries m) (each_row (λ k r. f r ≤ bound) m each)) where
        sum_le : (es : List (K × X)) → Each (λ k r. f r ≤ bound) es
            → sum_by f (map (λ e. e.1) es) ≤ bound * length es
        sum_le [] h = omega arith
        sum_le (e ∷ es) h = omega (arith, sum_by-cons f e.1 (map (λ e. e.1) es), h.0, sum_le es h.1)

  -- one row's figure is at most the sum
  pub total_ge : (f : X → ℕ) (m : FinMap R X) (k : K) (r : X) → fin.get m k ≡ Some r
      → f r ≤ total f m
  total_ge f m k r there = sum_ge (fin.entries m) (sym (fin.get-entries m k) ∙ there) where
    sum_ge : (es : List (K × X)) → fin.find R k es ≡ Some r → f r ≤ sum_by f (map (λ e. e.1) es)
    sum_ge [] h = some_none (sym h)
    sum_ge (e ∷ es) h = one (eq_by_cmp R k e.0) h (sum_ge es) where
      one : (b : Bool) → cond b (Some e.1) (fin.find R k es) ≡ Some r
          → (fin.find R k es ≡ Some r → f r ≤ sum_by f (map (λ e. e.1) es))
          → f r ≤ sum_by f (map (λ e. e.1) (e ∷ es))
      one true h rest =
          omega (arith, ap f (same_some e.1 r h), sum_by-cons f e.1 (map (λ e. e.1) es))
      one false h rest = omega (arith, rest h, sum_by-cons f e.1 (map (λ e. e.1) es))

  -- a search among the rows finds the one row that passes
  pub find_one : (p : X → Bool) (m : FinMap R X) (k : K) (r : X) → fin.get m k ≡ Some r
      → p r ≡ true → ((q : K) (s : X) → fin.get m q ≡ Some s → p s ≡ true → s ≡ r)
      → find_first p (fin.values m) ≡ Some r
  find_one p m k r there passes alone = search_in (fin.entries m)
      (sym (fin.get-entries m k) ∙ there) (each_row (λ q s. p s ≡ true → s ≡ r) m alone) where
        search_in : (es : List (K × X)) → fin.find R k es ≡ Some r
            → Each (λ q s. p s ≡ true → s ≡ r) es → find_first p (map (λ e. e.1) es) ≡ Some r
        search_in [] h each = some_none (sym h)
        search_in (e ∷ es) h each = one (p e.1) refl (eq_by_cmp R k e.0) h
            (λ later. search_in es later each.1) where
              one : (b : Bool) → p e.1 ≡ b → (t : Bool)
                  → cond t (Some e.1) (fin.find R k es) ≡ Some r
                  → (fin.find R k es ≡ Some r → find_first p (map (λ e. e.1) es) ≡ Some r)
                  → cond b (Some e.1) (find_first p (map (λ e. e.1) es)) ≡ Some r
              one true is t h rest = ap Some (each.0 is)
              one false is true h rest = absurd (cc (is, ap p (same_some e.1 r h), passes))
              one false is false h rest = rest h

  -- and none if none passes
  pub find_none : (p : X → Bool) (m : FinMap R X)
      → ((k : K) (r : X) → fin.get m k ≡ Some r → p r ≡ false)
      → find_first p (fin.values m) ≡ None
  find_none p m none = search_in (fin.entries m) (each_row (λ k r. p r ≡ false) m none) where
    search_in : (es : List (K × X)) → Each (λ k r. p r ≡ false) es
        → find_first p (map (λ e. e.1) es) ≡ None
    search_in [] h = refl
    search_in (e ∷ es) h = ap (λ b. cond b (Some e.1) (find_first p (map (λ e. e.1) es))) h.0
        ∙ search_in es h.1

  -- what a search among the rows found is a row that passes
  pub find_some : (p : X → Bool) (m : FinMap R X) (r : X) → find_first p (fin.values m) ≡ Some r
      → (k : K) × (fin.get m k ≡ Some r) × (p r ≡ true)
  find_some p m r found = search_in (fin.entries m)
      (each_row (λ k s. fin.get m k ≡ Some s) m (λ k s e. e)) found where
        search_in : (es : List (K × X)) → Each (λ k s. fin.get m k ≡ Some s) es
            → find_first p (map (λ e. e.1) es) ≡ Some r
            → (k : K) × (fin.get m k ≡ Some r) × (p r ≡ true)
        search_in [] each e = some_none (sym e)
        search_in (x ∷ es) each e = one (p x.1) refl e (search_in es each.1) where
          one : (b : Bool) → p x.1 ≡ b
              → cond b (Some x.1) (find_first p (map (λ e. e.1) es)) ≡ Some r
              → (find_first p (map (λ e. e.1) es) ≡ Some r
              → (k : K) × (fin.get m k ≡ Some r) × (p r ≡ true))
              → (k : K) × (fin.get m k ≡ Some r) × (p r ≡ true)
          one true is e rest =
              (let same = same_some x.1 r e in
              (x.0, each.0 ∙ ap Some same, sym (ap p same) ∙ is))
          one false is e rest = rest e

  -- if it found none, none passes
  pub find_fails : (p : X → Bool) (m : FinMap R X) → find_first p (fin.values m) ≡ None
      → (k : K) (r : X) → fin.get m k ≡ Some r → p r ≡ false
  find_fails p m none k r there = search_in (fin.entries m)
      (sym (fin.get-entries m k) ∙ there) none where
        search_in : (es : List (K × X)) → fin.find R k es ≡ Some r
            → find_first p (map (λ e. e.1) es) ≡ None → p r ≡ false
        search_in [] h e = some_none (sym h)
        search_in (x ∷ es) h e = one (p x.1) refl (eq_by_cmp R k x.0) h e (search_in es) where
          one : (b : Bool) → p x.1 ≡ b → (t : Bool) → cond t (Some x.1) (fin.find R k es) ≡ Some r
              → cond b (Some x.1) (find_first p (map (λ e. e.1) es)) ≡ None
              → (fin.find R k es ≡ Some r → find_first p (map (λ e. e.1) es) ≡ None → p r ≡ false)
              → p r ≡ false
          one true is t h e rest = some_none e
          one false is true h e rest = sym (ap p (same_some x.1 r h)) ∙ is
          one false is false h e rest = rest h e

  -- a test of all rows
  pub any_row : (p : X → Bool) (m : FinMap R X) (k : K) (r : X) → fin.get m k ≡ Some r
      → p r ≡ true → list_any p (fin.values m) ≡ true
  any_row p m k r there passes = search_in (fin.entries m) (sym (fin.get-entries m k) ∙ there) where
    search_in : (es : List (K × X)) → fin.find R k es ≡ Some r
        → list_any p (map (λ e. e.1) es) ≡ true
    search_in [] h = some_none (sym h)
    search_in (e ∷ es) h = one (p e.1) refl (eq_by_cmp R k e.0) h
        (λ later. search_in es later) where
          one : (b : Bool) → p e.1 ≡ b → (t : Bool) → cond t (Some e.1) (fin.find R k es) ≡ Some r
              → (fin.find R k es ≡ Some r → list_any p (map (λ e. e.1) es) ≡ true)
              → (b || list_any p (map (λ e. e.1) es)) ≡ true
          one true is t h rest = refl
          one false is true h rest = absurd (cc (is, ap p (same_some e.1 r h), passes))
          one false is false h rest = rest h

  pub no_row_passes : (p : X → Bool) (m : FinMap R X)
      → ((k : K) (r : X) → fin.get m k ≡ Some r → p r ≡ false) → list_any p (fin.values m) ≡ false
  no_row_passes p m none = search_in (fin.entries m) (each_row (λ k r. p r ≡ false) m none) where
    search_in : (es : List (K × X)) → Each (λ k r. p r ≡ false) es
        → list_any p (map (λ e. e.1) es) ≡ false
    search_in [] h = refl
    search_in (e ∷ es) h = ap (λ b. b || list_any p (map (λ e. e.1) es)) h.0 ∙ search_in es h.1
