-- Rows at places, an index to them and their finite map: where the index leads, and what a change
-- of one place does.
use Rattle.std.proofs.Common.{◌≡◌, ◌≢◌, ℕ, Bool, refl, sym, ◌∙◌, ap, subst, Some, None}
use Rattle.std.specs.Prelude.{Option}
use Rattle.std.specs.Option.{option_map}
use Rattle.std.specs.Bool.{Decides}
use Rattle.std.specs.Cmp.{IsTotalOrder}
use Rattle.std.specs.declared.cmp.Ordering.{Ordering}
use Rattle.std.specs.List.{find as find_first}
use Rattle.std.specs.FinMap as fin
use Rattle.std.specs.FinMap.{FinMap, IsAntisymmetric}
use Rattle.std.specs.HashMap as hash
use Rattle.std.specs.HashMap.{HashMap}
use Rattle.slab.specs.Slab as slab
use Rattle.keyed.specs.Maps.{Changed}
use Rattle.keyed.specs.Places.{AreApart}
use Rattle.keyed.proofs.Decide.{by_test, by_place, some_none, same_some, test_false}
use Rattle.keyed.proofs.Maps.{by_key, Changed-remove}
use Rattle.keyed.proofs.Places.{IsMapOf, StandsAt}
use Rattle.keyed.proofs.Values.{find_one, find_none}
use Rattle.registrations.specs.inside.Indexes.{IsIndexOf}

-- what `slab` and `indexmap` say of a change
pub Changed-slab : {X : Type 0} (old new : slab.Slab X) (i : ℕ) (slot : Option X)
    → slab.Updates old new i slot → Changed (slab.get old) (slab.get new) i slot
Changed-slab old new i slot u = record { here = u.changed; others = u.others }

pub Changed-index : {K V S : Type 0} {eq : K → K → Bool} (decides : (a b : K) → Decides (eq a b)
    (a ≡ b)) (old new : HashMap K V S) (k : K) (w : Option V) → hash.Updates eq old new k w
    → Changed (hash.get eq old) (hash.get eq new) k w
Changed-index {eq = eq} decides old new k w u = record {
  here = u.1;
  others = λ q differ. u.2 q (test_false (eq k q) (decides k q) (λ e. differ (sym e)));
}

-- where the index of a part leads
module _ {A X : Type 0} (part : X → A) (at : ℕ → Option X) (index : A → Option ℕ)
    (ix : IsIndexOf part at index) where
  pub AreApart-indexed : AreApart part at
  AreApart-indexed = record {
    apart = λ i j r s p q e.
        same_some i j (sym (ix.listed i r p) ∙ (ap index e ∙ ix.listed j s q));
  }

  found_row : (x : Option X) (a : A) → option_map part x ≡ Some a
      → (r : X) × (x ≡ Some r) × (part r ≡ a)
  found_row None a e = some_none (sym e)
  found_row (Some r) a e = (r, refl, same_some (part r) a e)

  -- an index that names a place names a row with this part
  pub indexed_row : (a : A) (i : ℕ) → index a ≡ Some i → (r : X) × (at i ≡ Some r) × (part r ≡ a)
  indexed_row a i e = found_row (at i) a (ix.leads a i e)

  -- no row has a part that the index doesn't have
  pub no_row : (a : A) → index a ≡ None → (i : ℕ) (r : X) → at i ≡ Some r → part r ≢ a
  no_row a none i r there is = some_none (sym (ix.listed i r there) ∙ (ap index is ∙ none))

module _ {A X : Type 0} (part : X → A) {eq : A → A → Bool}
    (decides : (a b : A) → Decides (eq a b) (a ≡ b)) where
  by_part : (a b : A) (P : Type 0) → (a ≡ b → P) → (a ≢ b → P) → P
  by_part a b P f g = by_test (eq a b) (decides a b) P f g

  -- a new row at an empty place
  pub IsIndexOf-put : (at new : ℕ → Option X) (index next : A → Option ℕ) (i : ℕ) (v : X)
      → IsIndexOf part at index → at i ≡ None → index (part v) ≡ None
      → Changed at new i (Some v) → Changed index next (part v) (Some i) → IsIndexOf part new next
  IsIndexOf-put at new index next i v ix vacant absent c d = record {
    leads = λ a j e. by_part a (part v) (option_map part (new j) ≡ Some a)
        (λ p. let is : i ≡ j = same_some i j (sym d.here ∙ (ap next (sym p) ∙ e)) in
        ap (option_map part) (ap new (sym is) ∙ c.here) ∙ ap Some (sym p))
        (λ differ. let was : index a ≡ Some j = sym (d.others a differ) ∙ e in
        let row = indexed_row part at index ix a j was in
        let other : j ≢ i = (λ p. some_none (sym row.1 ∙ (ap at p ∙ vacant))) in
        ap (option_map part) (c.others j other) ∙ ix.leads a j was);
    listed = λ j r e. by_place j i (next (part r) ≡ Some j)
        (λ p. let is : v ≡ r = same_some v r (sym c.here ∙ (ap new (sym p) ∙ e)) in
        ap (λ x. next (part x)) (sym is) ∙ (d.here ∙ ap Some (sym p)))
        (λ differ. let was : at j ≡ Some r = sym (c.others j differ) ∙ e in
        d.others (part r) (no_row part at index ix (part v) absent j r was) ∙ ix.listed j r was);
  }

  -- a row is changed where it stands, and keeps this part
  pub IsIndexOf-set : (at new : ℕ → Option X) (index : A → Option ℕ) (i : ℕ) (old v : X)
      → IsIndexOf part at index → at i ≡ Some old → part v ≡ part old
      → Changed at new i (Some v) → IsIndexOf part new index
  IsIndexOf-set at new index i old v ix there keeps c = record {
    leads = λ a j e. by_place j i (option_map part (new j) ≡ Some a)
        (λ p. ap (λ x. option_map part (new x)) p ∙ (ap (option_map part) c.here
        ∙ (ap Some keeps ∙ (ap (option_map part) (sym there)
        ∙ (ap (λ x. option_map part (at x)) (sym p) ∙ ix.leads a j e)))))
        (λ differ. ap (option_map part) (c.others j differ) ∙ ix.leads a j e);
    listed = λ j r e. by_place j i (index (part r) ≡ Some j)
        (λ p. let is : v ≡ r = same_some v r (sym c.here ∙ (ap new (sym p) ∙ e)) in
        ap index (ap part (sym is) ∙ keeps) ∙ (ix.listed i old there ∙ ap Some (sym p)))
        (λ differ. ix.listed j r (sym (c.others j differ) ∙ e));
  }

  -- a row is taken out
  pub IsIndexOf-clear : (at new : ℕ → Option X) (index next : A → Option ℕ) (i : ℕ) (old : X)
      → IsIndexOf part at index → at i ≡ Some old
      → Changed at new i None → Changed index next (part old) None → IsIndexOf part new next
  IsIndexOf-clear at new index next i old ix there c d = record {
    leads = λ a j e. by_part a (part old) (option_map part (new j) ≡ Some a)
        (λ p. some_none (sym e ∙ (ap next p ∙ d.here)))
        (λ differ. let was : index a ≡ Some j = sym (d.others a differ) ∙ e in
        let row = indexed_row part at index ix a j was in
        let other : j ≢ i = (λ p. differ (sym row.2
        ∙ ap part (same_some row.0 old (sym row.1 ∙ (ap at p ∙ there))))) in
        ap (option_map part) (c.others j other) ∙ ix.leads a j was);
    listed = λ j r e. by_place j i (next (part r) ≡ Some j)
        (λ p. some_none (sym e ∙ (ap new p ∙ c.here)))
        (λ differ. let was : at j ≡ Some r = sym (c.others j differ) ∙ e in
        let other : part r ≢ part old = (λ p. differ
        ((AreApart-indexed part at index ix).apart j i r old was there p)) in
        d.others (part r) other ∙ ix.listed j r was);
  }

-- what is stored at the place to which the index of the keys leads is what the map has
module _ {K X : Type 0} {R : K → K → Ordering} (key : X → K) (at : ℕ → Option X)
    (index : K → Option ℕ) (ix : IsIndexOf key at index) (m : FinMap R X)
    (of : IsMapOf key (λ r. r) at m) where
  pub get_indexed : (k : K) (i : ℕ) → index k ≡ Some i → fin.get m k ≡ at i
  get_indexed k i e =
      let row = indexed_row key at index ix k i e in
      ap (fin.get m) (sym row.2) ∙ (of.has i row.0 row.1 ∙ sym row.1)

  pub get_unindexed : (k : K) → index k ≡ None → fin.get m k ≡ None
  get_unindexed k e = cases (fin.get m k) refl where
    cases : (x : Option X) → fin.get m k ≡ x → fin.get m k ≡ None
    cases None is = is
    cases (Some r) is =
        let s = of.stands k r is in
        absurd (no_row key at index ix k e s.0 s.1 s.2.there s.2.key_is)

  pub unindexed : (k : K) → fin.get m k ≡ None → index k ≡ None
  unindexed k e = cases (index k) refl where
    cases : (x : Option ℕ) → index k ≡ x → index k ≡ None
    cases None is = is
    cases (Some i) is =
        (let row = indexed_row key at index ix k i is in
        some_none (sym row.1 ∙ (sym (get_indexed k i is) ∙ e)))

-- a search of the map by another part, which no two rows share, is a look-up in its index
module _ {K A X : Type 0} {R : K → K → Ordering} (o : IsTotalOrder R) (same : IsAntisymmetric R)
    (key : X → K) (part : X → A) {eq : A → A → Bool}
    (decides : (a b : A) → Decides (eq a b) (a ≡ b)) (at : ℕ → Option X) (index : A → Option ℕ)
    (ix : IsIndexOf part at index) (m : FinMap R X) (of : IsMapOf key (λ r. r) at m) where
  pub find_indexed : (a : A) (i : ℕ) → index a ≡ Some i
      → find_first (λ r. eq (part r) a) (fin.values m) ≡ at i
  find_indexed a i e =
      let row = indexed_row part at index ix a i e in
      find_one o same (λ r. eq (part r) a) m (key row.0) row.0 (of.has i row.0 row.1)
      ((decides (part row.0) a).1 row.2)
      (λ q s there passes.
      (let stands = of.stands q s there in
      let is_s : stands.1 ≡ s = stands.2.value_is in
      let place : Some stands.0 ≡ Some i = sym (ix.listed stands.0 stands.1 stands.2.there)
      ∙ (ap index (ap part is_s ∙ (decides (part s) a).0 passes) ∙ e) in
      sym is_s ∙ same_some stands.1 row.0
      (sym stands.2.there ∙ (ap at (same_some stands.0 i place) ∙ row.1))))
      ∙ sym row.1

  pub find_unindexed : (a : A) → index a ≡ None
      → find_first (λ r. eq (part r) a) (fin.values m) ≡ None
  find_unindexed a e = find_none o same (λ r. eq (part r) a) m
      (λ k r there. (let s = of.stands k r there in
      test_false (eq (part r) a) (decides (part r) a)
      (λ p. no_row part at index ix a e s.0 s.1 s.2.there (ap part s.2.value_is ∙ p))))

  pub unindexed_part : (a : A) → find_first (λ r. eq (part r) a) (fin.values m) ≡ None
      → index a ≡ None
  unindexed_part a e = cases (index a) refl where
    cases : (x : Option ℕ) → index a ≡ x → index a ≡ None
    cases None is = is
    cases (Some i) is =
        (let row = indexed_row part at index ix a i is in
        some_none (sym row.1 ∙ (sym (find_indexed a i is) ∙ e)))

-- a row is taken out of its place
pub IsMapOf-clear : {K V X : Type 0} {R : K → K → Ordering} (o : IsTotalOrder R)
    (same : IsAntisymmetric R) (key : X → K) (value : X → V) (at new : ℕ → Option X) (i : ℕ)
    (old : X) (m : FinMap R V) → IsMapOf key value at m → AreApart key at → at i ≡ Some old
    → Changed at new i None → IsMapOf key value new (fin.remove m (key old))
IsMapOf-clear {K} {V} {X} o same key value at new i old m of apart there c =
    let d = Changed-remove o same m (key old) in
    record {
      has = λ j r e. by_place j i (fin.get (fin.remove m (key old)) (key r) ≡ Some (value r))
          (λ p. some_none (sym (subst (λ (x : ℕ). new x ≡ Some r) p e) ∙ c.here))
          (λ differ. let was : at j ≡ Some r = sym (c.others j differ) ∙ e in
          d.others (key r) (λ k. differ (apart.apart j i r old was there k)) ∙ of.has j r was);
      stands = λ k v e. by_key o same k (key old)
          ((j : ℕ) × (r : X) × StandsAt key value new j r k v)
          (λ p. some_none (sym (subst (λ (x : K). fin.get (fin.remove m (key old)) x ≡ Some v) p e)
          ∙ d.here))
          (λ differ. let s = of.stands k v (sym (d.others k differ) ∙ e) in
          let other : s.0 ≢ i = (λ p. differ (sym s.2.key_is
          ∙ ap key (same_some s.1 old (sym s.2.there ∙ (ap at p ∙ there))))) in (
            s.0,
            s.1,
            record {
              there = c.others s.0 other ∙ s.2.there;
              key_is = s.2.key_is;
              value_is = s.2.value_is;
            },
          ));
    }
