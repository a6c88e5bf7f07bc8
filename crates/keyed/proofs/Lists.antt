-- The rows of a table, sorted by rising key, are the list of its finite map.
use Rattle.std.proofs.Common.{◌≡◌, ◌≢◌, ℕ, zero, suc, ◌<◌, ◌≤◌, Bool, true, false, ◌&&◌, List, []}
use Rattle.std.proofs.Common.{◌∷◌, length, get_or, refl, sym, ◌∙◌, ap, subst, cond, nat_eq, Some}
use Rattle.std.proofs.Common.{arith}
use Rattle.std.specs.Prelude.{slice_get, T}
use Rattle.std.proofs.Math.ListN.{set}
use Rattle.std.specs.List.{swap}
use Rattle.std.specs.List.Sorted.{IsPermutation, IsSortedByKey}
use Rattle.std.proofs.lemmas.List.{length-set}
use Rattle.std.proofs.lemmas.List.Edits.{swap_is}
use Rattle.std.proofs.lemmas.List.Sorted.{IsPermutation-keeps, searchable_from_sorted}
use Rattle.std.proofs.lemmas.Option.{slice_get-get_or, get_or_from_slice_get, slice_get_within}
use Rattle.std.proofs.lemmas.Bool.Decides.{nat_tests}
use Rattle.std.specs.Cmp.{IsTotalOrder}
use Rattle.std.specs.declared.cmp.Ordering.{Ordering}
use Rattle.std.specs.declared.cmp.Ordering.TheVariants.{Less, Equal, Greater}
use Rattle.std.specs.Ordering.{is_lt, is_eq, ordering_index}
use Rattle.std.specs.FinMap as fin
use Rattle.std.specs.FinMap.{FinMap, IsAntisymmetric}
use Rattle.std.specs.FinMap.Entries.{below_all, is_sorted, same_entries}
use Rattle.keyed.specs.Places.{row_in, map_of, entries_of, AreApart}
use Rattle.keyed.proofs.Decide.{by_place}
use Rattle.keyed.proofs.Maps.{itself}
use Rattle.keyed.proofs.Places.{IsMapOf, one_map}
use Rattle.keyed.proofs.Rows.{Changed-set, IsMapOf-rows}

-- each key is below those of the rows after it
record IsRisingBy {K X : Type 0} (R : K → K → Ordering) (key : X → K) (rows : List X) : Type 0 where
  rises : (i j : ℕ) (r s : X) → i < j → slice_get rows i ≡ Some r → slice_get rows j ≡ Some s
      → R (key r) (key s) ≡ Less

-- the place from which the row at k comes, if those at a and b are exchanged
abbrev exchanged : ℕ → ℕ → ℕ → ℕ
exchanged a b k = cond (nat_eq k a) b (cond (nat_eq k b) a k)

exchanged_here : (a b : ℕ) → exchanged a b a ≡ b
exchanged_here a b = grind (arith, nat_tests)

exchanged_there : (a b : ℕ) → exchanged a b b ≡ a
exchanged_there a b = grind (arith, nat_tests)

exchanged_else : (a b k : ℕ) → k ≢ a → k ≢ b → exchanged a b k ≡ k
exchanged_else a b k p q = grind (arith, nat_tests)

exchanged_again : (a b k : ℕ) → exchanged a b (exchanged a b k) ≡ k
exchanged_again a b k = by_place k a (exchanged a b (exchanged a b k) ≡ k)
    (λ e. ap (λ n. exchanged a b (exchanged a b n)) e
    ∙ (ap (exchanged a b) (exchanged_here a b) ∙ (exchanged_there a b ∙ sym e)))
    (λ differ. by_place k b (exchanged a b (exchanged a b k) ≡ k)
    (λ e. ap (λ n. exchanged a b (exchanged a b n)) e
    ∙ (ap (exchanged a b) (exchanged_there a b) ∙ (exchanged_here a b ∙ sym e)))
    (λ other. ap (exchanged a b) (exchanged_else a b k differ other)
    ∙ exchanged_else a b k differ other))

row_in-swap : {X : Type 0} (rows : List X) (a b : ℕ) → a < length rows → b < length rows → (k : ℕ)
    → row_in (swap rows a b) k ≡ row_in rows (exchanged a b k)
row_in-swap [] a b within inside k = absurd (omega arith)
row_in-swap (x ∷ xs) a b within inside k =
    let rows = x ∷ xs in
    let once = set rows a (get_or rows b x) in
    let c = Changed-set rows a (get_or rows b x) within in
    let d = Changed-set once b (get_or rows a x)
    (omega (arith, length-set rows a (get_or rows b x))) in
    let at_a = slice_get-get_or rows a x within in
    let at_b = slice_get-get_or rows b x inside in
    sym (ap (λ l. row_in l k) (swap_is rows a b x within inside))
    ∙ by_place k b (row_in (set once b (get_or rows a x)) k ≡ row_in rows (exchanged a b k))
    (λ e. ap (row_in (set once b (get_or rows a x))) e ∙ (d.here
    ∙ (sym at_a ∙ ap (row_in rows) (sym (ap (exchanged a b) e ∙ exchanged_there a b)))))
    (λ other. d.others k other ∙ by_place k a (row_in once k ≡ row_in rows (exchanged a b k))
    (λ e. ap (row_in once) e ∙ (c.here
    ∙ (sym at_b ∙ ap (row_in rows) (sym (ap (exchanged a b) e ∙ exchanged_here a b)))))
    (λ differ. c.others k differ ∙ ap (row_in rows) (sym (exchanged_else a b k differ other))))

both : (a b : Bool) → T a → T b → T (a && b)
both true b p q = q
both false b p q = p

module _ {K V X : Type 0} {R : K → K → Ordering} (o : IsTotalOrder R) (same : IsAntisymmetric R)
    (key : X → K) (value : X → V) where
  -- rows with keys of their own, whose map this is
  record AreRowsOf (m : FinMap R V) (rows : List X) : Type 0 where
    distinct : AreApart key (row_in rows)
    of : IsMapOf key value (row_in rows) m

  AreRowsOf-swap : (m : FinMap R V) (rows : List X) (a b : ℕ) → a < length rows → b < length rows
      → AreRowsOf m rows → AreRowsOf m (swap rows a b)
  AreRowsOf-swap m rows a b within inside h =
      let was = row_in-swap rows a b within inside in
      record {
        distinct = record {
          apart = λ i j r s p q e.
              (let moved = h.distinct.apart (exchanged a b i) (exchanged a b j) r s
              (sym (was i) ∙ p) (sym (was j) ∙ q) e in
              sym (exchanged_again a b i) ∙ (ap (exchanged a b) moved ∙ exchanged_again a b j));
        };
        of = record {
          has = λ i r e. h.of.has (exchanged a b i) r (sym (was i) ∙ e);
          stands = λ k v e.
              (let s = h.of.stands k v e in (
                exchanged a b s.0,
                s.1,
                record {
                  there = was (exchanged a b s.0) ∙
                      (ap (row_in rows) (exchanged_again a b s.0) ∙ s.2.there);
                  key_is = s.2.key_is;
                  value_is = s.2.value_is;
                },
              ));
        };
      }

  -- the same rows in another order
  AreRowsOf-moved : (m : FinMap R V) (rows moved : List X) → IsPermutation rows moved
      → AreRowsOf m rows → AreRowsOf m moved
  AreRowsOf-moved m rows moved p h = IsPermutation-keeps rows (AreRowsOf m) h
      (λ l i j within inside. AreRowsOf-swap m l i j within inside) moved p

  at_most_equal : (r : Ordering) → ordering_index r ≤ 1 → r ≢ Equal → r ≡ Less
  at_most_equal Less h differ = refl
  at_most_equal Equal h differ = absurd (differ refl)
  at_most_equal Greater h differ = absurd (omega arith)

  equal_itself : (r : Ordering) → is_eq r ≡ true → ordering_index r ≤ 1
  equal_itself Less h = omega arith
  equal_itself Equal h = omega arith
  equal_itself Greater h = absurd (cc h)

  -- rows that were sorted by keys of their own
  IsRisingBy-sorted : (rows : List X) → AreApart key (row_in rows) → IsSortedByKey key R rows
      → IsRisingBy R key rows
  IsRisingBy-sorted rows h up = record {
    rises = λ i j r s less p q.
        (let rise = searchable_from_sorted o key rows (key s) up i j s (omega arith)
        (slice_get_within rows j s q) in
        let here = get_or_from_slice_get rows i r s p in
        let there = get_or_from_slice_get rows j s s q in
        let low : ordering_index (R (key (get_or rows j s)) (key s)) ≤ 1 = subst
        (λ (x : X). ordering_index (R (key x) (key s)) ≤ 1) (sym there)
        (equal_itself (R (key s) (key s)) (itself o same (key s))) in
        let most : ordering_index (R (key r) (key s)) ≤ 1 = subst
        (λ (x : X). ordering_index (R (key x) (key s)) ≤ 1) here (omega (arith, rise, low)) in
        at_most_equal (R (key r) (key s)) most
        (λ e. (let one : i ≡ j = h.apart i j r s p q (same (key r) (key s) e) in
        omega arith)));
  }

  rising_tail : (r : X) (rows : List X) → IsRisingBy R key (r ∷ rows) → IsRisingBy R key rows
  rising_tail r rows h =
      record { rises = λ i j x y less p q. h.rises (suc i) (suc j) x y (omega arith) p q }

  is_less : (r : Ordering) → r ≡ Less → T (is_lt r)
  is_less Less e = tt
  is_less Equal e = absurd (cc e)
  is_less Greater e = absurd (cc e)

  below : (k : K) (rows : List X)
      → ((j : ℕ) (y : X) → slice_get rows j ≡ Some y → R k (key y) ≡ Less)
      → T (below_all R k (entries_of key value rows))
  below k [] h = tt
  below k (r ∷ rows) h = both _ _ (is_less (R k (key r)) (h zero r refl))
      (below k rows (λ j y e. h (suc j) y e))

  sorted : (rows : List X) → IsRisingBy R key rows → T (is_sorted R (entries_of key value rows))
  sorted [] h = tt
  sorted (r ∷ rows) h = both _ _
      (below (key r) rows (λ j y e. h.rises zero (suc j) r y (omega arith) refl e))
      (sorted rows (rising_tail r rows h))

  listed : (rows : List X) (m : FinMap R V) → IsRisingBy R key rows → AreRowsOf m rows
      → entries_of key value rows ≡ fin.entries m
  listed rows m rising h =
      let is : map_of {R = R} key value rows ≡ m = one_map o same key value (row_in rows) _ m
      (IsMapOf-rows o same key value rows h.distinct) h.of in
      same_entries R o same (entries_of key value rows) (fin.entries m) (sorted rows rising)
      (fin.entries_sorted m)
      (λ q. sym (fin.get-from_entries o (entries_of key value rows) q)
      ∙ (ap (λ n. fin.get n q) is ∙ fin.get-entries m q))

  -- a table's rows, sorted by their keys, are the entries of its map in their order
  pub sorted_rows : (rows moved : List X) → AreApart key (row_in rows) → IsPermutation rows moved
      → IsSortedByKey key R moved
      → entries_of key value moved ≡ fin.entries (map_of {R = R} key value rows)
  sorted_rows rows moved h p up =
      let m = map_of {R = R} key value rows in
      let all = AreRowsOf-moved m rows moved p
      (record { distinct = h; of = IsMapOf-rows o same key value rows h }) in
      listed moved m (IsRisingBy-sorted moved all.distinct up) all
