-- The entries of an `indexmap`, and the finite map that they make.
use Rattle.std.proofs.Common.{◌≡◌, ℕ, zero, suc, Bool, List, [], ◌∷◌, length, refl, sym, ◌∙◌, ap}
use Rattle.std.proofs.Common.{subst, cond, Some, None, ◌+◌}
use Rattle.std.specs.Prelude.{Option, slice_get, false}
use Rattle.std.specs.Bool.{Decides}
use Rattle.std.specs.Cmp.{IsTotalOrder}
use Rattle.std.specs.declared.cmp.Ordering.{Ordering}
use Rattle.std.specs.List.{sum_by, AllByRecursion, IsDistinct}
use Rattle.std.specs.Map.{lookup, keys_of, values_of}
use Rattle.std.specs.Ordering.{eq_by_cmp}
use Rattle.std.specs.HashMap as hash
use Rattle.std.specs.HashMap.{HashMap}
use Rattle.std.specs.FinMap as fin
use Rattle.std.specs.FinMap.{IsAntisymmetric}
use Rattle.std.proofs.lemmas.Bool.Decides.{same_from_decides}
use Rattle.std.proofs.lemmas.List.Sums.{sum_by-cons}
use Rattle.std.proofs.lemmas.Map.Keys.{IsDistinct-head, IsDistinct-tail}
use Rattle.keyed.specs.Maps.{Changed, total}
use Rattle.keyed.specs.Places.{AreApart, row_in, entries_of}
use Rattle.keyed.proofs.Decide.{test_false, some_none, same_some}
use Rattle.keyed.proofs.Maps.{key_decides, insert_is, remove_is}
use Rattle.keyed.proofs.Rows.{len_rows, total_rows}

abbrev pub key_of : {K V : Type 0} → K × V → K
key_of e = e.0

abbrev pub value_of : {K V : Type 0} → K × V → V
value_of e = e.1

pub entries_again : {K V : Type 0} (es : List (K × V)) → entries_of key_of value_of es ≡ es
entries_again [] = refl
entries_again (e ∷ es) = ap (λ rest. e ∷ rest) (entries_again es)

-- a sum over the entries is one over their values
sum_values : {K V : Type 0} (f : V → ℕ) (es : List (K × V))
    → sum_by (λ e. f e.1) es ≡ sum_by f (values_of es)
sum_values f [] = refl
sum_values f (e ∷ es) = sum_by-cons (λ e. f e.1) e es
    ∙ (ap (λ n. f e.1 + n) (sum_values f es) ∙ sym (sum_by-cons f e.1 (values_of es)))

module _ {K : Type 0} {eq : K → K → Bool} (decides : (a b : K) → Decides (eq a b) (a ≡ b)) where
  each_key : {V : Type 0} (P : K → Type 0) (es : List (K × V)) → AllByRecursion P (keys_of es)
      → (j : ℕ) (s : K × V) → slice_get es j ≡ Some s → P s.0
  each_key P [] h j s there = some_none (sym there)
  each_key P (e ∷ es) h zero s there = subst (λ x. P x.0) (same_some e s there) h.0
  each_key P (e ∷ es) h (suc j) s there = each_key P es h.1 j s there

  -- no two entries share a key
  pub AreApart-entries : {V : Type 0} (es : List (K × V)) → IsDistinct eq (keys_of es)
      → AreApart key_of (row_in es)
  AreApart-entries [] h = record { apart = λ i j r s p q e. some_none (sym p) }
  AreApart-entries {V} (x ∷ es) h =
      let rest = AreApart-entries es (IsDistinct-tail eq x.0 (keys_of es) h) in
      record { apart = places rest } where
        differ : (j : ℕ) (s : K × V) → slice_get es j ≡ Some s → x.0 ≡ s.0 → ⊥
        differ j s there e =
            let apart : eq x.0 s.0 ≡ false = each_key (λ k. eq x.0 k ≡ false) es
            (IsDistinct-head eq x.0 (keys_of es) h) j s there in
            cc (apart, (decides x.0 s.0).1 e)

        places : AreApart key_of (row_in es) → (i j : ℕ) (r s : K × V)
            → slice_get (x ∷ es) i ≡ Some r → slice_get (x ∷ es) j ≡ Some s → r.0 ≡ s.0 → i ≡ j
        places rest zero zero r s p q e = refl
        places rest zero (suc j) r s p q e = absurd (differ j s q (ap key_of (same_some x r p) ∙ e))
        places rest (suc i) zero r s p q e =
            absurd (differ i r p (ap key_of (same_some x s q) ∙ sym e))
        places rest (suc i) (suc j) r s p q e = ap suc (rest.apart i j r s p q e)

  module _ {R : K → K → Ordering} (o : IsTotalOrder R) (same : IsAntisymmetric R) where
    one_test : (q k : K) → eq_by_cmp R q k ≡ eq q k
    one_test q k = same_from_decides _ _ (key_decides o same q k) (decides q k)

    module _ {V : Type 0} where
      found : (q : K) (es : List (K × V)) → fin.find R q es ≡ lookup (eq q) es
      found q [] = refl
      found q (e ∷ es) = λ i. cond (one_test q e.0 i) (Some e.1) (found q es i)

      -- a look-up in the finite map of the entries returns what one in the table returns
      pub get_entries : (es : List (K × V)) (q : K)
          → fin.get (fin.from_entries {R = R} es) q ≡ lookup (eq q) es
      get_entries es q = fin.get-from_entries o es q ∙ found q es

      -- it has the same number of rows, and the same sum over them
      pub len_entries : (es : List (K × V)) → AreApart key_of (row_in es)
          → fin.len (fin.from_entries {R = R} es) ≡ length es
      len_entries es h = ap (λ l. fin.len (fin.from_entries {R = R} l)) (sym (entries_again es))
          ∙ len_rows o same key_of value_of es h

      pub total_entries : (f : V → ℕ) (es : List (K × V)) → AreApart key_of (row_in es)
          → total f (fin.from_entries {R = R} es) ≡ sum_by f (values_of es)
      total_entries f es h =
          ap (λ l. total f (fin.from_entries {R = R} l)) (sym (entries_again es))
          ∙ (total_rows o same key_of value_of f es h ∙ sum_values f es)

      module _ {S : Type 0} (old new : HashMap K V S) (k : K) where
        changed_entries : (w : Option V) → hash.Updates eq old new k w
            → Changed (fin.get (fin.from_entries {R = R} old.entries))
            (fin.get (fin.from_entries {R = R} new.entries)) k w
        changed_entries w u = record {
          here = get_entries new.entries k ∙ u.1;
          others = λ q differ. get_entries new.entries q
              ∙ (u.2 q (test_false (eq k q) (decides k q) (λ e. differ (sym e)))
              ∙ sym (get_entries old.entries q));
        }

        pub entries_insert : (v : V) → hash.Updates eq old new k (Some v)
            → fin.from_entries {R = R} new.entries ≡ fin.insert (fin.from_entries old.entries) k v
        entries_insert v u = insert_is o same _ _ k v (changed_entries (Some v) u)

        pub entries_remove : hash.Updates eq old new k None
            → fin.from_entries {R = R} new.entries ≡ fin.remove (fin.from_entries old.entries) k
        entries_remove u = remove_is o same _ _ k (changed_entries None u)
