-- Rows in a list, as in a `Vec`, and the finite map that they make: what a push, a write and a
-- removal do, and what is counted and summed over the list.
use Rattle.std.proofs.Common.{◌≡◌, ◌≢◌, ℕ, zero, suc, ◌<◌, List, [], ◌∷◌, ◌++◌, length, refl, sym}
use Rattle.std.proofs.Common.{◌∙◌, ap, subst, Some, None, arith}
use Rattle.std.specs.Prelude.{Option, slice_get, remove}
use Rattle.std.proofs.Math.ListN.{set}
use Rattle.std.specs.List.{sum_by, find as find_first}
use Rattle.std.proofs.lemmas.List.Sums.{sum_by-cons}
use Rattle.std.specs.Cmp.{IsTotalOrder}
use Rattle.std.specs.declared.cmp.Ordering.{Ordering}
use Rattle.std.specs.FinMap as fin
use Rattle.std.specs.FinMap.{FinMap, IsAntisymmetric}
use Rattle.keyed.specs.Maps.{Changed, total, retain_values}
use Rattle.keyed.specs.Places.{row_in, map_of, entries_of, AreApart}
use Rattle.keyed.proofs.Decide.{some_none, same_some}
use Rattle.std.specs.Prelude.{filter, Bool, true, false, cond}
use Rattle.std.proofs.lemmas.Map.Entries.{option_filter}
use Rattle.keyed.proofs.Maps.{by_key, Changed-insert, Changed-remove, len_more, IsOnce}
use Rattle.keyed.proofs.Maps.{find_retained, get_retained}
use Rattle.keyed.proofs.Sums.{total-insert, total-empty}
use Rattle.keyed.proofs.Values.{find_one, find_none}
use Rattle.keyed.proofs.Places.{IsMapOf, StandsAt, one_map, IsMapOf-put, AreApart-set}

-- what a push, a write and a removal do at each place
pub Changed-push : {X : Type 0} (rows : List X) (v : X)
    → Changed (row_in rows) (row_in (rows ++ v ∷ [])) (length rows) (Some v)
Changed-push {X} [] v = record { here = refl; others = elsewhere } where
  elsewhere : (j : ℕ) → j ≢ 0 → slice_get (v ∷ []) j ≡ slice_get (let e : List X = [] in e) j
  elsewhere zero differ = absurd (differ refl)
  elsewhere (suc j) differ = refl
Changed-push (r ∷ rows) v =
    let c = Changed-push rows v in
    record { here = c.here; others = elsewhere c } where
      elsewhere : Changed (row_in rows) (row_in (rows ++ v ∷ [])) (length rows) (Some v) → (j : ℕ)
          → j ≢ suc (length rows) → slice_get (r ∷ rows ++ v ∷ []) j ≡ slice_get (r ∷ rows) j
      elsewhere c zero differ = refl
      elsewhere c (suc j) differ = c.others j (λ e. differ (ap suc e))

pub Changed-set : {X : Type 0} (rows : List X) (i : ℕ) (v : X) → i < length rows
    → Changed (row_in rows) (row_in (set rows i v)) i (Some v)
Changed-set [] i v h = absurd (omega arith)
Changed-set (r ∷ rows) zero v h = record { here = refl; others = elsewhere } where
  elsewhere : (j : ℕ) → j ≢ 0 → slice_get (v ∷ rows) j ≡ slice_get (r ∷ rows) j
  elsewhere zero differ = absurd (differ refl)
  elsewhere (suc j) differ = refl
Changed-set (r ∷ rows) (suc i) v h = let c = Changed-set rows i v
    (omega arith) in record { here = c.here; others = elsewhere c } where
      elsewhere : Changed (row_in rows) (row_in (set rows i v)) i (Some v) → (j : ℕ) → j ≢ suc i
          → slice_get (r ∷ set rows i v) j ≡ slice_get (r ∷ rows) j
      elsewhere c zero differ = refl
      elsewhere c (suc j) differ = c.others j (λ e. differ (ap suc e))

-- what is left after a removal stood elsewhere, and what stood elsewhere is left
pub left_over : {X : Type 0} (rows : List X) (i j : ℕ) (r : X)
    → slice_get (remove rows i) j ≡ Some r → (m : ℕ) × (slice_get rows m ≡ Some r) × (m ≢ i)
left_over [] zero j r e = some_none (sym e)
left_over [] (suc i) j r e = some_none (sym e)
left_over (x ∷ rows) zero j r e = (suc j, e, λ p. absurd (omega arith))
left_over (x ∷ rows) (suc i) zero r e = (zero, e, λ p. absurd (omega arith))
left_over (x ∷ rows) (suc i) (suc j) r e =
    (let rest = left_over rows i j r e in
    (suc rest.0, rest.1, λ p. rest.2 (omega arith)))

pub still_there : {X : Type 0} (rows : List X) (i j : ℕ) (r : X) → slice_get rows j ≡ Some r
    → j ≢ i → (m : ℕ) × (slice_get (remove rows i) m ≡ Some r)
still_there [] i j r e differ = some_none (sym e)
still_there (x ∷ rows) zero zero r e differ = absurd (differ refl)
still_there (x ∷ rows) zero (suc j) r e differ = (j, e)
still_there (x ∷ rows) (suc i) zero r e differ = (zero, e)
still_there (x ∷ rows) (suc i) (suc j) r e differ =
    (let rest = still_there rows i j r e (λ p. differ (ap suc p)) in
    (suc rest.0, rest.1))

-- apartness after a push, a write that keeps the part, and a removal
module _ {A X : Type 0} (part : X → A) where
  pub apart_tail : (r : X) (rows : List X) → AreApart part (row_in (r ∷ rows))
      → AreApart part (row_in rows)
  apart_tail r rows h =
      record { apart = λ i j x y p q e. omega (arith, h.apart (suc i) (suc j) x y p q e) }

  pub AreApart-remove : (rows : List X) (i : ℕ) → AreApart part (row_in rows)
      → AreApart part (row_in (remove rows i))
  AreApart-remove [] zero h = h
  AreApart-remove [] (suc i) h = h
  AreApart-remove (r ∷ rows) zero h = apart_tail r rows h
  AreApart-remove (r ∷ rows) (suc i) h =
      let rest = AreApart-remove rows i (apart_tail r rows h) in
      record { apart = cases rest } where
        cases : AreApart part (row_in (remove rows i)) → (a b : ℕ) (x y : X)
            → slice_get (r ∷ remove rows i) a ≡ Some x → slice_get (r ∷ remove rows i) b ≡ Some y
            → part x ≡ part y → a ≡ b
        cases rest zero zero x y p q e = refl
        cases rest zero (suc b) x y p q e =
            (let was = left_over rows i b y q in
            let at_zero : zero ≡ suc was.0 = h.apart zero (suc was.0) x y p was.1 e in
            absurd (omega arith))
        cases rest (suc a) zero x y p q e =
            (let was = left_over rows i a x p in
            let at_zero : suc was.0 ≡ zero = h.apart (suc was.0) zero x y was.1 q e in
            absurd (omega arith))
        cases rest (suc a) (suc b) x y p q e = ap suc (rest.apart a b x y p q e)

module _ {K V X : Type 0} {R : K → K → Ordering} (o : IsTotalOrder R) (same : IsAntisymmetric R)
    (key : X → K) (value : X → V) where
  -- the map of the rows in a list
  pub IsMapOf-rows : (rows : List X) → AreApart key (row_in rows)
      → IsMapOf key value (row_in rows) (map_of {R = R} key value rows)
  IsMapOf-rows [] h = record {
    has = λ i r e. some_none (sym e);
    stands = λ k v e. some_none (sym e ∙ fin.get-empty R k);
  }
  IsMapOf-rows (x ∷ rows) h =
      let m = map_of {R = R} key value rows in
      let rest = IsMapOf-rows rows (apart_tail key x rows h) in
      let c = Changed-insert o same m (key x) (value x) in
      record {
        has = here_or_later m rest;
        stands = λ k v e. by_key o same k (key x)
            ((j : ℕ) × (r : X) × StandsAt key value (row_in (x ∷ rows)) j r k v)
            (λ p. let is : value x ≡ v = same_some (value x) v
            (sym c.here ∙ (ap (fin.get (fin.insert m (key x) (value x))) (sym p) ∙ e)) in
            (zero, x, record { there = refl; key_is = sym p; value_is = is }))
            (λ differ. let s = rest.stands k v (sym (c.others k differ) ∙ e) in (
              suc s.0,
              s.1,
              record { there = s.2.there; key_is = s.2.key_is; value_is = s.2.value_is },
            ));
      } where
        here_or_later : (m : FinMap R V) → IsMapOf key value (row_in rows) m → (i : ℕ) (r : X)
            → slice_get (x ∷ rows) i ≡ Some r
            → fin.get (fin.insert m (key x) (value x)) (key r) ≡ Some (value r)
        here_or_later m rest zero r e =
            subst (λ (y : X). fin.get (fin.insert m (key x) (value x)) (key y) ≡ Some (value y))
            (same_some x r e)
            (Changed-insert o same m (key x) (value x)).here
        here_or_later m rest (suc i) r e =
            (Changed-insert o same m (key x) (value x)).others (key r)
            (λ k. absurd (let at_zero : suc i ≡ zero = h.apart (suc i) zero r x e refl k in
            omega arith))
            ∙ rest.has i r e

  -- no later row has the first row's key
  first_alone : (x : X) (rows : List X) → AreApart key (row_in (x ∷ rows))
      → fin.get (map_of {R = R} key value rows) (key x) ≡ None
  first_alone x rows h = cases (fin.get (map_of {R = R} key value rows) (key x)) refl where
    cases : (v : Option V) → fin.get (map_of {R = R} key value rows) (key x) ≡ v
        → fin.get (map_of {R = R} key value rows) (key x) ≡ None
    cases None is = is
    cases (Some v) is =
        let s = (IsMapOf-rows rows (apart_tail key x rows h)).stands (key x) v is in
        absurd (let at_zero : suc s.0 ≡ zero =
        h.apart (suc s.0) zero s.1 x s.2.there refl s.2.key_is in
        omega arith)

  IsOnce-rows : (rows : List X) → AreApart key (row_in rows) → IsOnce R (entries_of key value rows)
  IsOnce-rows [] h = tt
  IsOnce-rows (x ∷ rows) h =
      let none = sym (fin.get-from_entries o (entries_of key value rows) (key x))
      ∙ first_alone x rows h in
      (none, IsOnce-rows rows (apart_tail key x rows h))

  -- the map has the same number of rows, and the same sum
  pub len_rows : (rows : List X) → AreApart key (row_in rows)
      → fin.len (map_of {R = R} key value rows) ≡ length rows
  len_rows [] h = fin.len-empty R V
  len_rows (x ∷ rows) h =
      let more = len_more o same (map_of {R = R} key value rows) (key x) (value x)
      (first_alone x rows h) in
      omega (arith, more, len_rows rows (apart_tail key x rows h))

  pub total_rows : (f : V → ℕ) (rows : List X) → AreApart key (row_in rows)
      → total f (map_of {R = R} key value rows) ≡ sum_by (λ r. f (value r)) rows
  total_rows f [] h = total-empty o same f
  total_rows f (x ∷ rows) h =
      let more = total-insert o same f (map_of {R = R} key value rows) (key x) (value x)
      (first_alone x rows h) in
      omega (
        arith,
        more,
        total_rows f rows (apart_tail key x rows h),
        sum_by-cons (λ r. f (value r)) x rows,
      )

  entries_push : (rows : List X) (r : X)
      → entries_of key value (rows ++ r ∷ []) ≡ entries_of key value rows ++ (key r, value r) ∷ []
  entries_push [] r = refl
  entries_push (x ∷ rows) r = ap (λ es. (key x, value x) ∷ es) (entries_push rows r)

  -- what a push, a write and a removal do to the map: a row whose key is new is pushed
  pub map_push : (rows : List X) (r : X) → fin.get (map_of {R = R} key value rows) (key r) ≡ None
      → map_of {R = R} key value (rows ++ r ∷ [])
      ≡ fin.insert (map_of key value rows) (key r) (value r)
  map_push rows r absent =
      ap (λ es. fin.from_entries es) (entries_push rows r)
      ∙ fin.from_entries_push o same (entries_of key value rows) (key r) (value r)
      (sym (fin.get-from_entries o (entries_of key value rows) (key r)) ∙ absent)

  -- if the map has nothing under a key, no row has that key
  pub none_there : (rows : List X) → AreApart key (row_in rows) → (k : K)
      → fin.get (map_of {R = R} key value rows) k ≡ None
      → (j : ℕ) (s : X) → row_in rows j ≡ Some s → key s ≢ k
  none_there rows h k absent j s there is =
      some_none (sym ((IsMapOf-rows rows h).has j s there)
      ∙ (ap (fin.get (map_of {R = R} key value rows)) is ∙ absent))

  -- a row is changed where it stands, and keeps its key
  pub map_set : (rows : List X) (i : ℕ) (old r : X) → AreApart key (row_in rows) → i < length rows
      → slice_get rows i ≡ Some old → key r ≡ key old
      → map_of {R = R} key value (set rows i r)
      ≡ fin.insert (map_of key value rows) (key r) (value r)
  map_set rows i old r h within there keeps =
      let c = Changed-set rows i r within in
      let apart = AreApart-set key (row_in rows) (row_in (set rows i r)) i old r h there keeps c in
      one_map o same key value (row_in (set rows i r)) _ _ (IsMapOf-rows (set rows i r) apart)
      (IsMapOf-put o same key value (row_in rows) (row_in (set rows i r)) i r
      (map_of {R = R} key value rows) (IsMapOf-rows rows h) c
      (λ s e. ap key (same_some s old (sym e ∙ there)) ∙ sym keeps)
      (λ j s e is. h.apart j i s old e there (is ∙ keeps)))

  -- a row is taken out
  pub map_remove : (rows : List X) (i : ℕ) (old : X) → AreApart key (row_in rows)
      → slice_get rows i ≡ Some old
      → map_of {R = R} key value (remove rows i) ≡ fin.remove (map_of key value rows) (key old)
  map_remove rows i old h there =
      let m = map_of {R = R} key value rows in
      let of = IsMapOf-rows rows h in
      let c = Changed-remove o same m (key old) in
      one_map o same key value (row_in (remove rows i)) _ _
      (IsMapOf-rows (remove rows i) (AreApart-remove key rows i h)) (record {
        has = λ j r e. (let was = left_over rows i j r e in
            c.others (key r) (λ p. was.2 (h.apart was.0 i r old was.1 there p))
            ∙ of.has was.0 r was.1);
        stands = λ k v e. by_key o same k (key old)
            ((j : ℕ) × (r : X) × StandsAt key value (row_in (remove rows i)) j r k v)
            (λ p. some_none (sym e ∙ (ap (fin.get (fin.remove m (key old))) p ∙ c.here)))
            (λ differ. let s = of.stands k v (sym (c.others k differ) ∙ e) in
            let now = still_there rows i s.0 s.1 s.2.there (λ p. differ (sym s.2.key_is
            ∙ ap key (same_some s.1 old (sym s.2.there ∙ (ap (slice_get rows) p ∙ there))))) in
            (now.0, s.1, record { there = now.1; key_is = s.2.key_is; value_is = s.2.value_is }));
      })

  -- the rows that pass a test of their values are left
  entries_retained : (test : V → Bool) (rows : List X)
      → entries_of key value (filter (λ r. test (value r)) rows)
      ≡ filter (λ e. test e.1) (entries_of key value rows)
  entries_retained test [] = refl
  entries_retained test (x ∷ rows) = cases (entries_retained test rows) (test (value x)) where
    cases : entries_of key value (filter (λ r. test (value r)) rows)
        ≡ filter (λ e. test e.1) (entries_of key value rows)
        → (b : Bool)
        → entries_of key value
        (cond b (x ∷ filter (λ r. test (value r)) rows) (filter (λ r. test (value r)) rows))
        ≡ cond b ((key x, value x) ∷ filter (λ e. test e.1) (entries_of key value rows))
        (filter (λ e. test e.1) (entries_of key value rows))
    cases rest true = ap (λ es. (key x, value x) ∷ es) rest
    cases rest false = rest

  pub map_retained : (test : V → Bool) (rows : List X) → AreApart key (row_in rows)
      → map_of {R = R} key value (filter (λ r. test (value r)) rows)
      ≡ retain_values (map_of key value rows) test
  map_retained test rows h = fin.same_map o same _ _ (λ q.
      fin.get-from_entries o (entries_of key value (filter (λ r. test (value r)) rows)) q
      ∙ (ap (fin.find R q) (entries_retained test rows)
      ∙ (find_retained o same test q (entries_of key value rows) (IsOnce-rows rows h)
      ∙ (sym (ap (option_filter test) (fin.get-from_entries o (entries_of key value rows) q))
      ∙ sym (get_retained o same test (map_of key value rows) q)))))

-- what a search found: the first row that passes, or that none does
module _ {X : Type 0} (p : X → Bool) where
  abbrev pub FindsIn : List X → Option X → Type 0
  FindsIn rows None = (j : ℕ) (s : X) → slice_get rows j ≡ Some s → p s ≡ false
  FindsIn rows (Some r) = (i : ℕ) × (slice_get rows i ≡ Some r) × (p r ≡ true)

  fails_first : (x : X) (rows : List X) (w : Option X) → p x ≡ false → FindsIn rows w
      → FindsIn (x ∷ rows) w
  fails_first x rows None fails h = later where
    later : (j : ℕ) (s : X) → slice_get (x ∷ rows) j ≡ Some s → p s ≡ false
    later zero s e = sym (ap p (same_some x s e)) ∙ fails
    later (suc j) s e = h j s e
  fails_first x rows (Some r) fails h = (suc h.0, h.1, h.2)

  pub finds_in : (rows : List X) → FindsIn rows (find_first p rows)
  finds_in [] = λ j s e. some_none (sym e)
  finds_in (x ∷ rows) = cases (finds_in rows) (p x) refl where
    cases : FindsIn rows (find_first p rows) → (b : Bool) → p x ≡ b
        → FindsIn (x ∷ rows) (cond b (Some x) (find_first p rows))
    cases rest true is = (zero, refl, is)
    cases rest false is = fails_first x rows (find_first p rows) is rest

-- if at most one row passes, the search among the values of the map finds the same
module _ {K X : Type 0} {R : K → K → Ordering} (o : IsTotalOrder R) (same : IsAntisymmetric R)
    (key : X → K) (p : X → Bool) where
  pub find_rows : (rows : List X) → AreApart key (row_in rows)
      → ((i j : ℕ) (r s : X) → slice_get rows i ≡ Some r → slice_get rows j ≡ Some s
      → p r ≡ true → p s ≡ true → i ≡ j)
      → find_first p (fin.values (map_of {R = R} key (λ r. r) rows)) ≡ find_first p rows
  find_rows rows h alone = cases (find_first p rows) (finds_in p rows) where
    of : IsMapOf key (λ r. r) (row_in rows) (map_of {R = R} key (λ r. r) rows)
    of = IsMapOf-rows o same key (λ r. r) rows h

    cases : (w : Option X) → FindsIn p rows w
        → find_first p (fin.values (map_of {R = R} key (λ r. r) rows)) ≡ w
    cases None none = find_none o same p (map_of key (λ r. r) rows) (λ k r there.
        (let s = of.stands k r there in sym (ap p s.2.value_is) ∙ none s.0 s.1 s.2.there))
    cases (Some r) found = find_one o same p (map_of key (λ r. r) rows) (key r) r
        (of.has found.0 r found.1) found.2 (λ q x there passes.
        (let s = of.stands q x there in
        let place = alone s.0 found.0 s.1 r s.2.there found.1
        (ap p s.2.value_is ∙ passes) found.2 in
        sym s.2.value_is ∙ same_some s.1 r (sym s.2.there ∙ (ap (slice_get rows) place ∙ found.1))))

-- rows that are apart stay apart if only those that pass a test are left
module _ {A X : Type 0} (part : X → A) (test : X → Bool) where
  was_there : (rows : List X) (i : ℕ) (r : X) → slice_get (filter test rows) i ≡ Some r
      → (j : ℕ) × (slice_get rows j ≡ Some r)
  was_there [] i r e = some_none (sym e)
  was_there (x ∷ rows) i r e = cases (was_there rows) (test x) i e where
    cases : ((i : ℕ) (r : X) → slice_get (filter test rows) i ≡ Some r
        → (j : ℕ) × (slice_get rows j ≡ Some r))
        → (b : Bool) (i : ℕ)
        → slice_get (cond b (x ∷ filter test rows) (filter test rows)) i ≡ Some r
        → (j : ℕ) × (slice_get (x ∷ rows) j ≡ Some r)
    cases rest true zero e = (zero, e)
    cases rest true (suc i) e = (let s = rest i r e in (suc s.0, s.1))
    cases rest false i e = (let s = rest i r e in (suc s.0, s.1))

  pub AreApart-filter : (rows : List X) → AreApart part (row_in rows)
      → AreApart part (row_in (filter test rows))
  AreApart-filter [] h = h
  AreApart-filter (x ∷ rows) h = cases (AreApart-filter rows (apart_tail part x rows h))
      (test x) where
        cases : AreApart part (row_in (filter test rows)) → (b : Bool)
            → AreApart part (row_in (cond b (x ∷ filter test rows) (filter test rows)))
        cases rest true = record { apart = places rest } where
          places : AreApart part (row_in (filter test rows)) → (i j : ℕ) (r s : X)
              → slice_get (x ∷ filter test rows) i ≡ Some r
              → slice_get (x ∷ filter test rows) j ≡ Some s → part r ≡ part s → i ≡ j
          places rest zero zero r s p q e = refl
          places rest zero (suc j) r s p q e =
              (let was = was_there rows j s q in
              let at : zero ≡ suc was.0 = h.apart zero (suc was.0) r s p was.1 e in
              absurd (omega arith))
          places rest (suc i) zero r s p q e =
              (let was = was_there rows i r p in
              let at : suc was.0 ≡ zero = h.apart (suc was.0) zero r s was.1 q e in
              absurd (omega arith))
          places rest (suc i) (suc j) r s p q e = ap suc (rest.apart i j r s p q e)
        cases rest false = rest
