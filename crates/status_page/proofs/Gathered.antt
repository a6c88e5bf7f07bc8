-- The first of the entries that were told.
use Rattle.std.proofs.Common.{◌≡◌, ◌∙◌, sym, ap, refl, arith, ℕ, zero, suc, ◌≤◌, Bool, true, false, ◌||◌}
use Rattle.std.proofs.Common.{List, [], ◌∷◌, map, take, length, Box}
use Rattle.std.proofs.lemmas.Bool.{ltb-false}
use Rattle.std.proofs.lemmas.List.{length-map, take_all, take-map}
use Rattle.std.proofs.lemmas.Map.Entries.{length-values_of}
use Rattle.std.specs.BTreeMap.{insert_entry}
use Rattle.std.specs.Global.{Global}
use Rattle.std.specs.Map.{values_of}
use Rattle.std.specs.Ordering.{match_ordering}
use Rattle.std.specs.Prelude.{nat_lt}
use Rattle.std.specs.declared.cmp.Ordering.{Ordering}
use Rattle.std.specs.declared.cmp.Ordering.TheVariants.{Less, Equal, Greater}
use Rattle.status_page.specs.Keeping.{IsKept}

-- entries without their boxes
abbrev pub unboxed : {K X : Type 0} → List (K × Box X Global) → List (K × X)
unboxed es = map (λ e. (e.0, e.1.value)) es

unboxed-insert_entry : {K X : Type 0} (cmp : K → K → Ordering) (k : K) (v : Box X Global) (es : List (K × Box X Global))
    → unboxed (insert_entry cmp es k v) ≡ insert_entry cmp (unboxed es) k v.value
unboxed-insert_entry cmp k v [] = refl
unboxed-insert_entry {K = K} {X = X} cmp k v (e ∷ es) = by (cmp k e.0) (unboxed-insert_entry cmp k v es)
  where
    by : (r : Ordering) → unboxed (insert_entry cmp es k v) ≡ insert_entry cmp (unboxed es) k v.value
        → unboxed (match_ordering r ((k, v) ∷ e ∷ es) ((e.0, v) ∷ es) (e ∷ insert_entry cmp es k v))
        ≡ match_ordering r ((k, v.value) ∷ (e.0, e.1.value) ∷ unboxed es) ((e.0, v.value) ∷ unboxed es)
        ((e.0, e.1.value) ∷ insert_entry cmp (unboxed es) k v.value)
    by Less h = refl
    by Equal h = refl
    by Greater h = ap (λ rest. (e.0, e.1.value) ∷ rest) h

values-unboxed : {K X : Type 0} (es : List (K × Box X Global)) → map (λ b. b.value) (values_of es) ≡ values_of (unboxed es)
values-unboxed [] = refl
values-unboxed (e ∷ es) = ap (λ rest. e.1.value ∷ rest) (values-unboxed es)

-- the first ones of the first ones
take_twice : {A : Type 0} (n : ℕ) (xs : List A) → take n (take n xs) ≡ take n xs
take_twice zero xs = refl
take_twice (suc n) [] = refl
take_twice (suc n) (x ∷ xs) = ap (λ rest. x ∷ rest) (take_twice n xs)

take_fewer : {A : Type 0} (n : ℕ) (xs : List A) → take n (take (suc n) xs) ≡ take n xs
take_fewer zero xs = refl
take_fewer (suc n) [] = refl
take_fewer (suc n) (x ∷ xs) = ap (λ rest. x ∷ rest) (take_fewer n xs)

take_behind : {A : Type 0} (n : ℕ) (x : A) (xs : List A) → take n (x ∷ take n xs) ≡ take n (x ∷ xs)
take_behind zero x xs = refl
take_behind (suc n) x xs = ap (λ rest. x ∷ rest) (take_fewer n xs)

-- what stands behind the first ones doesn't count for what the first ones are with one more
take-insert_entry : {K X : Type 0} (cmp : K → K → Ordering) (k : K) (v : X) (n : ℕ) (es : List (K × X))
    → take n (insert_entry cmp (take n es) k v) ≡ take n (insert_entry cmp es k v)
take-insert_entry cmp k v zero es = refl
take-insert_entry cmp k v (suc n) [] = refl
take-insert_entry {K = K} {X = X} cmp k v (suc n) (e ∷ es) = by (cmp k e.0) (take-insert_entry cmp k v n es)
  where
    by : (r : Ordering) → take n (insert_entry cmp (take n es) k v) ≡ take n (insert_entry cmp es k v)
        → take (suc n) (match_ordering r ((k, v) ∷ e ∷ take n es) ((e.0, v) ∷ take n es) (e ∷ insert_entry cmp (take n es) k v))
        ≡ take (suc n) (match_ordering r ((k, v) ∷ e ∷ es) ((e.0, v) ∷ es) (e ∷ insert_entry cmp es k v))
    by Less h = ap (λ rest. (k, v) ∷ rest) (take_behind n e es)
    by Equal h = ap (λ rest. (e.0, v) ∷ rest) (take_twice n es)
    by Greater h = ap (λ rest. e ∷ rest) h

-- no entry goes by putting one in
no_fewer : {K X : Type 0} (cmp : K → K → Ordering) (k : K) (v : X) (es : List (K × X)) → length es ≤ length (insert_entry cmp es k v)
no_fewer cmp k v [] = omega arith
no_fewer {K = K} {X = X} cmp k v (e ∷ es) = by (cmp k e.0) (no_fewer cmp k v es)
  where
    by : (r : Ordering) → length es ≤ length (insert_entry cmp es k v)
        → length (e ∷ es) ≤ length (match_ordering r ((k, v) ∷ e ∷ es) ((e.0, v) ∷ es) (e ∷ insert_entry cmp es k v))
    by Less h = omega arith
    by Equal h = omega arith
    by Greater h = omega (arith, h)

-- there are more than the first ones if there were, or if one more entry makes them too many
more_now : {K X : Type 0} (cmp : K → K → Ordering) (k : K) (v : X) (most : ℕ) (es : List (K × X))
    → (nat_lt most (length es) || nat_lt most (length (insert_entry cmp (take most es) k v))) ≡ nat_lt most (length (insert_entry cmp es k v))
more_now {K = K} {X = X} cmp k v most es = by (nat_lt most (length es)) refl
  where
    by : (b : Bool) → nat_lt most (length es) ≡ b
        → (b || nat_lt most (length (insert_entry cmp (take most es) k v))) ≡ nat_lt most (length (insert_entry cmp es k v))
    by true h = sym (grind (arith, h, no_fewer cmp k v es))
    by false h = ap (λ t. nat_lt most (length (insert_entry cmp t k v))) (take_all most es (ltb-false most (length es) h))

-- the entries that were kept are the first of those that were told, with one more; and whether there
-- are more of them is known
pub first_entries : {K X : Type 0} (cmp : K → K → Ordering) (most : ℕ) (old : List (K × Box X Global)) (k : K) (v : X)
    (new : List (K × Box X Global)) (was went : Bool) (all : List (K × X))
    → unboxed old ≡ take most all → was ≡ nat_lt most (length all) → IsKept cmp most old k v new went
    → (unboxed new ≡ take most (insert_entry cmp all k v)) × ((was || went) ≡ nat_lt most (length (insert_entry cmp all k v)))
first_entries {K = K} {X = X} cmp most old k v new was went all before more kept =
    let put : unboxed (insert_entry cmp old k kept.0) ≡ insert_entry cmp (take most all) k v =
    unboxed-insert_entry cmp k kept.0 old
    ∙ (ap (λ es. insert_entry cmp es k kept.0.value) before ∙ ap (λ x. insert_entry cmp (take most all) k x) kept.1) in
    let count : length (insert_entry cmp old k kept.0) ≡ length (insert_entry cmp (take most all) k v) =
    sym (length-map (insert_entry cmp old k kept.0) (λ e. (e.0, e.1.value))) ∙ ap length put in (
      ap unboxed kept.2 ∙ (sym (take-map (λ e. (e.0, e.1.value)) most (insert_entry cmp old k kept.0))
          ∙ (ap (take most) put ∙ take-insert_entry cmp k v most all)),
      ap (λ b. b || went) more
          ∙ (ap (λ b. nat_lt most (length all) || b) (kept.3 ∙ ap (λ n. nat_lt most n) count) ∙ more_now cmp k v most all),
    )

-- the rows of a list are the first of the values
pub first_rows : {K X : Type 0} (most : ℕ) (rows : List (Box X Global)) (es : List (K × Box X Global)) (all : List (K × X))
    → rows ≡ values_of es → unboxed es ≡ take most all → map (λ b. b.value) rows ≡ take most (values_of all)
first_rows most rows es all is first =
    ap (map (λ b. b.value)) is
    ∙ (values-unboxed es ∙ (ap values_of first ∙ sym (take-map (λ e. e.1) most all)))

pub more_rows : {K X : Type 0} (most : ℕ) (is_more : Bool) (all : List (K × X))
    → is_more ≡ nat_lt most (length all) → is_more ≡ nat_lt most (length (values_of all))
more_rows most is_more all is = is ∙ ap (λ n. nat_lt most n) (sym (length-values_of all))
