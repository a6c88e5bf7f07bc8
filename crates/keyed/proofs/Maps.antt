-- Finite maps by their look-ups: one that is changed at one key is an insertion or a removal.
use Rattle.std.proofs.Common.{◌≡◌, ◌≢◌, ◌+◌, Bool, true, false, List, [], ◌∷◌, refl, sym, ◌∙◌, ap}
use Rattle.std.proofs.Common.{subst, cond, Some, None}
use Rattle.std.specs.Prelude.{Option, is_some, T, ◌&&◌, filter}
use Rattle.std.specs.Option.{option_map}
use Rattle.std.proofs.lemmas.Map.Entries.{option_filter}
use Rattle.std.specs.Bool.{Decides}
use Rattle.std.specs.Cmp.{IsTotalOrder}
use Rattle.std.specs.declared.cmp.Ordering.{Ordering}
use Rattle.std.specs.declared.cmp.Ordering.TheVariants.{Less, Equal, Greater}
use Rattle.std.specs.Ordering.{eq_by_cmp, is_eq, is_lt, ordering_reverse}
use Rattle.std.specs.FinMap as fin
use Rattle.std.specs.FinMap.{FinMap, IsAntisymmetric}
use Rattle.std.specs.FinMap.Entries.{below_all, is_sorted}
use Rattle.keyed.specs.Maps.{Changed, put_if, update, retain_values}
use Rattle.keyed.proofs.Decide.{by_test, test_false}

is_equal : (r : Ordering) → is_eq r ≡ true → r ≡ Equal
is_equal Less h = absurd (cc h)
is_equal Equal h = refl
is_equal Greater h = absurd (cc h)

self_equal : (r : Ordering) → r ≡ ordering_reverse r → is_eq r ≡ true
self_equal Less h = absurd (cc h)
self_equal Equal h = refl
self_equal Greater h = absurd (cc h)

pub first : (a b : Bool) → T (a && b) → T a
first true b p = tt
first false b p = p

pub second : (a b : Bool) → T (a && b) → T b
second true b p = p
second false b p = absurd p

less : (r : Ordering) → T (is_lt r) → is_eq r ≡ false
less Less p = refl
less Equal p = absurd p
less Greater p = absurd p

pub find_below : {K V : Type 0} (R : K → K → Ordering) (q : K) (es : List (K × V))
    → T (below_all R q es) → fin.find R q es ≡ None
find_below R q [] h = refl
find_below R q (e ∷ es) h =
    ap (λ b. cond b (Some e.1) (fin.find R q es)) (less (R q e.0) (first _ _ h))
    ∙ find_below R q es (second _ _ h)

-- each key stands once among the entries
abbrev pub IsOnce : {K V : Type 0} → (K → K → Ordering) → List (K × V) → Type 0
IsOnce R [] = Unit {0}
IsOnce R (e ∷ es) = (fin.find R e.0 es ≡ None) × IsOnce R es

pub IsOnce-sorted : {K V : Type 0} (R : K → K → Ordering) (es : List (K × V)) → T (is_sorted R es)
    → IsOnce R es
IsOnce-sorted R [] h = tt
IsOnce-sorted R (e ∷ es) h = (find_below R e.0 es (first _ _ h), IsOnce-sorted R es (second _ _ h))

module _ {K : Type 0} {R : K → K → Ordering} (o : IsTotalOrder R) (same : IsAntisymmetric R) where
  pub itself : (k : K) → eq_by_cmp R k k ≡ true
  itself k = self_equal (R k k) (o.antisymm k k)

  pub key_decides : (k q : K) → Decides (eq_by_cmp R k q) (k ≡ q)
  key_decides k q = (
    λ e. same k q (is_equal (R k q) e),
    λ e. subst (λ (x : K). eq_by_cmp R k x ≡ true) e (itself k),
  )

  pub by_key : (k q : K) (P : Type 0) → (k ≡ q → P) → (k ≢ q → P) → P
  by_key k q P f g = by_test (eq_by_cmp R k q) (key_decides k q) P f g

  module _ {V : Type 0} where
    pub Changed-insert : (m : FinMap R V) (k : K) (v : V)
        → Changed (fin.get m) (fin.get (fin.insert m k v)) k (Some v)
    Changed-insert m k v = record {
      here = fin.get-insert o m k v k ∙ ap (λ b. cond b (Some v) (fin.get m k)) (itself k);
      others = λ q differ. fin.get-insert o m k v q
          ∙ ap (λ b. cond b (Some v) (fin.get m q)) (test_false _ (key_decides q k) differ);
    }

    pub Changed-remove : (m : FinMap R V) (k : K)
        → Changed (fin.get m) (fin.get (fin.remove m k)) k None
    Changed-remove m k = record {
      here = fin.get-remove o m k k ∙ ap (λ b. cond b None (fin.get m k)) (itself k);
      others = λ q differ. fin.get-remove o m k q
          ∙ ap (λ b. cond b None (fin.get m q)) (test_false _ (key_decides q k) differ);
    }

    both_changed : (f g h : K → Option V) (k : K) (w : Option V) → Changed f g k w
        → Changed f h k w → (q : K) → g q ≡ h q
    both_changed f g h k w a b q = by_key q k (g q ≡ h q)
        (λ e. subst (λ (x : K). g x ≡ h x) (sym e) (a.here ∙ sym b.here))
        (λ differ. a.others q differ ∙ sym (b.others q differ))

    -- the map after a change of one look-up
    pub insert_is : (m n : FinMap R V) (k : K) (v : V)
        → Changed (fin.get m) (fin.get n) k (Some v) → n ≡ fin.insert m k v
    insert_is m n k v c = fin.same_map o same n (fin.insert m k v)
        (both_changed (fin.get m) (fin.get n) (fin.get (fin.insert m k v)) k
        (Some v) c (Changed-insert m k v))

    pub remove_is : (m n : FinMap R V) (k : K) → Changed (fin.get m) (fin.get n) k None
        → n ≡ fin.remove m k
    remove_is m n k c = fin.same_map o same n (fin.remove m k)
        (both_changed (fin.get m) (fin.get n)
        (fin.get (fin.remove m k)) k None c (Changed-remove m k))

    Changed-same : (f : K → Option V) (k : K) → Changed f f k (f k)
    Changed-same f k = record { here = refl; others = λ q differ. refl }

    -- to put back what is there, or to take out what is not, changes nothing
    pub insert_again : (m : FinMap R V) (k : K) (v : V) → fin.get m k ≡ Some v
        → m ≡ fin.insert m k v
    insert_again m k v there = insert_is m m k v
        (subst (λ (w : Option V). Changed (fin.get m) (fin.get m) k w) there
        (Changed-same (fin.get m) k))

    pub remove_absent : (m : FinMap R V) (k : K) → fin.get m k ≡ None → m ≡ fin.remove m k
    remove_absent m k absent = remove_is m m k
        (subst (λ (w : Option V). Changed (fin.get m) (fin.get m) k w) absent
        (Changed-same (fin.get m) k))

    -- to change is to take out and put in
    pub insert_over : (m : FinMap R V) (k : K) (v : V)
        → fin.insert (fin.remove m k) k v ≡ fin.insert m k v
    insert_over m k v = insert_is m (fin.insert (fin.remove m k) k v) k v (record {
      here = (Changed-insert (fin.remove m k) k v).here;
      others = λ q differ. (Changed-insert (fin.remove m k) k v).others q differ
          ∙ (Changed-remove m k).others q differ;
    })

    pub update_there : (m : FinMap R V) (k : K) (old : V) (f : V → V) → fin.get m k ≡ Some old
        → update m k f ≡ fin.insert m k (f old)
    update_there m k old f there = ap (λ x. put_if m k (option_map f x)) there

    -- what a change of one value does to a look-up
    pub Changed-update : (m : FinMap R V) (k : K) (f : V → V)
        → Changed (fin.get m) (fin.get (update m k f)) k (option_map f (fin.get m k))
    Changed-update m k f = cases (fin.get m k) refl where
      cases : (x : Option V) → fin.get m k ≡ x
          → Changed (fin.get m) (fin.get (put_if m k (option_map f x))) k (option_map f x)
      cases None is = subst (λ (w : Option V). Changed (fin.get m) (fin.get m) k w) is
          (Changed-same (fin.get m) k)
      cases (Some v) is = Changed-insert m k (f v)

    -- the number of entries
    pub len_more : (m : FinMap R V) (k : K) (v : V) → fin.get m k ≡ None
        → fin.len (fin.insert m k v) ≡ fin.len m + 1
    len_more m k v absent = fin.len-insert o m k v ∙ ap
        (λ x. cond (is_some x) (fin.len m) (fin.len m + 1)) absent

    pub len_less : (m : FinMap R V) (k : K) (old : V) → fin.get m k ≡ Some old
        → fin.len m ≡ fin.len (fin.remove m k) + 1
    len_less m k old there =
        ap fin.len (insert_again m k old there ∙ sym (insert_over m k old))
        ∙ len_more (fin.remove m k) k old (Changed-remove m k).here

    -- a look-up among the entries that pass a test of their values
    pub find_retained : (test : V → Bool) (q : K) (es : List (K × V)) → IsOnce R es
        → fin.find R q (filter (λ e. test e.1) es) ≡ option_filter test (fin.find R q es)
    find_retained test q [] once = refl
    find_retained test q (e ∷ es) once = cases (find_retained test q es once.1) (test e.1) refl
        (eq_by_cmp R q e.0) refl where
          cases : fin.find R q (filter (λ e. test e.1) es) ≡ option_filter test (fin.find R q es)
              → (b : Bool) → test e.1 ≡ b → (t : Bool) → eq_by_cmp R q e.0 ≡ t
              → fin.find R q (cond b (e ∷ filter (λ x. test x.1) es) (filter (λ x. test x.1) es))
              ≡ option_filter test (cond t (Some e.1) (fin.find R q es))
          cases rest true passes true here =
              ap (λ t. cond t (Some e.1) (fin.find R q (filter (λ x. test x.1) es))) here
              ∙ sym (ap (λ b. cond b (Some e.1) None) passes)
          cases rest true passes false differ =
              ap (λ t. cond t (Some e.1) (fin.find R q (filter (λ x. test x.1) es))) differ ∙ rest
          cases rest false fails true here =
              rest
              ∙ (ap (λ x. option_filter test (fin.find R x es)) ((key_decides q e.0).0 here)
              ∙ (ap (option_filter test) once.0 ∙ sym (ap (λ b. cond b (Some e.1) None) fails)))
          cases rest false fails false differ = rest

    pub get_retained : (test : V → Bool) (m : FinMap R V) (q : K)
        → fin.get (retain_values m test) q ≡ option_filter test (fin.get m q)
    get_retained test m q =
        fin.get-from_entries o (filter (λ e. test e.1) (fin.entries m)) q
        ∙ (find_retained test q (fin.entries m)
        (IsOnce-sorted R (fin.entries m) (fin.entries_sorted m))
        ∙ sym (ap (option_filter test) (fin.get-entries m q)))
