-- Entries that are kept: each of them has a property.
use Rattle.std.proofs.Common.{◌≡◌, ℕ, List, [], ◌∷◌, ◌++◌, map, refl, sym, ap, ap₂, subst, ◌∙◌, All, Option, None, Some, IfSome, IsSome, ◌↔◌, ◌<◌, ◌≤◌, ◌+◌, length, take, arith, length-append, true≢false, is_some, if◌then◌else◌}
use Rattle.std.proofs.lemmas.List.{take_at}
use Rattle.std.specs.declared.cmp.Ordering.{Ordering}
use Rattle.std.specs.declared.cmp.Ordering.TheVariants.{Less, Equal, Greater}
use Rattle.std.specs.BTreeMap.{insert_entry}
use Rattle.std.specs.Cmp.Lexicographic.{slice_cmp}
use Rattle.std.specs.Map.{keys_of, values_of}
use Rattle.std.specs.Ordering.{is_eq, match_ordering, nat_cmp}
use Rattle.std.proofs.lemmas.List.Elements.{All-nil, All-cons, All-head, All-tail}
use Rattle.std.proofs.lemmas.Map.Text.{is_eq-slice_cmp}
use Rattle.std.proofs.lemmas.Slice.Eq.{bytes_eq-Decides}

-- lists of numbers that compare equal are the same
pub same_lists : (xs ys : List ℕ) → slice_cmp nat_cmp xs ys ≡ Equal → xs ≡ ys
same_lists xs ys h = (bytes_eq-Decides xs ys).0 (sym (is_eq-slice_cmp xs ys) ∙ ap is_eq h)

-- what holds of each entry, and of a new one, holds of each entry with the new one
pub All-insert_entry : {K X : Type 0} (cmp : K → K → Ordering) (k : K) (v : X) (P : K × X → Type 0) (es : List (K × X))
    → ((x y : K) → cmp x y ≡ Equal → x ≡ y) → All P es → P (k, v) → All P (insert_entry cmp es k v)
All-insert_entry cmp k v P [] exact a p = All-cons P (k, v) [] p (All-nil P)
All-insert_entry {K = K} {X = X} cmp k v P (e ∷ es) exact a p = by (cmp k e.0) refl (All-insert_entry cmp k v P es exact (All-tail P _ _ a) p)
  where
    by : (r : Ordering) → cmp k e.0 ≡ r → All P (insert_entry cmp es k v)
        → All P (match_ordering r ((k, v) ∷ e ∷ es) ((e.0, v) ∷ es) (e ∷ insert_entry cmp es k v))
    by Less is h = All-cons P (k, v) (e ∷ es) p a
    by Equal is h =
        let Q : K → Type 0 = λ x. P (x, v) in
        All-cons P (e.0, v) es (subst Q (exact k e.0 is) p) (All-tail P _ _ a)
    by Greater is h = All-cons P e (insert_entry cmp es k v) (All-head P _ _ a) h

-- the keys of the values are the keys
pub keys_of_values : {K X : Type 0} (key : X → K) (es : List (K × X)) → All (λ e. e.0 ≡ key e.1) es
    → map key (values_of es) ≡ keys_of es
keys_of_values key [] a = refl
keys_of_values {K = K} {X = X} key (e ∷ es) a =
    let P : K × X → Type 0 = λ x. x.0 ≡ key x.1 in
    ap₂ (λ k ks. k ∷ ks) (sym (All-head P e es a)) (keys_of_values key es (All-tail P e es a))

-- what holds of each entry's value holds of each value
pub All-values : {K X : Type 0} (P : X → Type 0) (es : List (K × X)) → All (λ e. P e.1) es → All P (values_of es)
All-values P [] a = All-nil P
All-values {K = K} {X = X} P (e ∷ es) a =
    let Q : K × X → Type 0 = λ x. P x.1 in
    All-cons P e.1 (values_of es) (All-head Q e es a) (All-values P es (All-tail Q e es a))

-- a list that lost its last entry has the first ones
pub popped : {X : Type 0} (r : Option X) (old new : List X) (n : ℕ) → IfSome r (λ x. old ≡ new ++ x ∷ [])
    → (IsSome r ↔ (0 < length old)) → n < length old → length old ≤ n + 1 → new ≡ take n old
popped None old new n h s a b = absurd (true≢false (sym (s.1 (omega (arith, a)))))
popped (Some x) old new n h s a b =
    sym (ap (take n) h ∙ take_at new (x ∷ []) n (omega (arith, a, b, ap length h, length-append new (x ∷ []))))

-- at most one more entry
pub few_more : {X : Type 0} (r : Option X) (old new n : ℕ) → new ≡ old + (if is_some r then 0 else 1)
    → old ≤ n → new ≤ n + 1
few_more None old new n e a = omega (arith, e, a)
few_more (Some x) old new n e a = omega (arith, e, a)
