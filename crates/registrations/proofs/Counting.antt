-- The numbers of legs beside the entries of the index, and the finite map that they make.
use Rattle.std.proofs.Common.{◌≡◌, ◌≢◌, ℕ, zero, suc, ◌<◌, List, [], ◌∷◌, ◌++◌, length, map, refl}
use Rattle.std.proofs.Common.{sym, ◌∙◌, ap, Some, None, arith, get_or}
use Rattle.std.specs.Prelude.{Option, slice_get}
use Rattle.std.specs.List.{zip}
use Rattle.std.proofs.Math.ListN.{set}
use Rattle.std.proofs.lemmas.Option.{slice_get-get_or, slice_get-map, slice_get_within}
use Rattle.std.specs.Option.{option_map}
use Rattle.std.specs.Cmp.{IsTotalOrder}
use Rattle.std.specs.declared.cmp.Ordering.{Ordering}
use Rattle.std.specs.FinMap as fin
use Rattle.std.specs.FinMap.{IsAntisymmetric}
use Rattle.std.proofs.lemmas.Cmp.{nat_list_cmp_total}
use Rattle.std.proofs.lemmas.Map.Lookups.{exact_bytes}
use Rattle.keyed.specs.Places.{AreApart, map_of, row_in}
use Rattle.keyed.proofs.Decide.{by_place, same_some, some_none}
use Rattle.keyed.proofs.Maps.{by_key, Changed-remove}
use Rattle.keyed.proofs.Places.{IsMapOf, StandsAt, one_map}
use Rattle.keyed.proofs.Rows.{IsMapOf-rows, map_push, map_set}
use Rattle.registrations.specs.inside.Stored.{Count, Entry, counted_id, counts_of, key_of}
use Rattle.registrations.specs.inside.Stored.{leg_counts_of, legs_in}
use Rattle.registrations.proofs.Swapped.{IsSwapped}

-- a row of a list goes, and another takes its place: its key goes from the map
module _ {K V X : Type 0} {R : K → K → Ordering} (o : IsTotalOrder R) (same : IsAntisymmetric R)
    (key : X → K) (value : X → V) (rows next : List X) (apart : AreApart key (row_in rows))
    (left : AreApart key (row_in next)) (gap last : ℕ) (s : IsSwapped rows next gap last) (r : X)
    (there : slice_get rows gap ≡ Some r) where
  -- where a row that is left stood before
  stood : (j : ℕ) (x : X) → slice_get next j ≡ Some x
      → (i : ℕ) × (slice_get rows i ≡ Some x) × (i ≢ gap)
  stood j x is = by_place j last ((i : ℕ) × (slice_get rows i ≡ Some x) × (i ≢ gap))
      (λ p. some_none (sym is ∙ (ap (slice_get next) p ∙ s.end)))
      (λ other. by_place j gap ((i : ℕ) × (slice_get rows i ≡ Some x) × (i ≢ gap))
      (λ p. (let differ : gap ≢ last = (λ q. other (p ∙ q)) in (
        last,
        sym (s.here differ) ∙ (ap (slice_get next) (sym p) ∙ is),
        λ q. differ (sym q),
      )))
      (λ differ. (j, sym (s.others j differ other) ∙ is, differ)))

  -- where a row that doesn't go stands after it
  stands : (i : ℕ) (x : X) → slice_get rows i ≡ Some x → i ≢ gap
      → (j : ℕ) × (slice_get next j ≡ Some x)
  stands i x is differ = by_place i last ((j : ℕ) × (slice_get next j ≡ Some x))
      (λ p. (gap, s.here (λ q. differ (p ∙ sym q)) ∙ (ap (slice_get rows) (sym p) ∙ is)))
      (λ other. (i, s.others i differ other ∙ is))

  pub map_swapped : map_of {R = R} key value next ≡ fin.remove (map_of key value rows) (key r)
  map_swapped =
      let m = map_of {R = R} key value rows in
      let of = IsMapOf-rows o same key value rows apart in
      let c = Changed-remove o same m (key r) in
      one_map o same key value (row_in next) _ _ (IsMapOf-rows o same key value next left) (record {
        has = λ j x is.
            (let was = stood j x is in
            c.others (key x)
            (λ e. was.2 (apart.apart was.0 gap x r was.1 there e)) ∙ of.has was.0 x was.1);
        stands = λ k v is. by_key o same k (key r)
            ((j : ℕ) × (x : X) × StandsAt key value (row_in next) j x k v)
            (λ p. some_none (sym is ∙ (ap (fin.get (fin.remove m (key r))) p ∙ c.here)))
            (λ differ.
            (let was = of.stands k v (sym (c.others k differ) ∙ is) in
            let now = stands was.0 was.1 was.2.there
            (λ p. differ (sym was.2.key_is ∙ ap key (same_some was.1 r
            (sym was.2.there ∙ (ap (slice_get rows) p ∙ there))))) in (
              now.0,
              was.1,
              record {
                there = now.1;
                key_is = was.2.key_is;
                value_is = was.2.value_is;
              },
            )));
      })

-- what stands at a place of two lists side by side
abbrev both : {A B : Type 0} → Option A → Option B → Option (A × B)
both None w = None
both (Some a) None = None
both (Some a) (Some b) = Some (a, b)

zip_at : {A B : Type 0} (xs : List A) (ys : List B) (i : ℕ)
    → slice_get (zip xs ys) i ≡ both (slice_get xs i) (slice_get ys i)
zip_at [] ys i = refl
zip_at (x ∷ xs) [] zero = refl
zip_at (x ∷ xs) [] (suc i) = none (slice_get xs i) where
  none : {A B : Type 0} (w : Option A) → None ≡ both {B = B} w None
  none None = refl
  none (Some a) = refl
zip_at (x ∷ xs) (y ∷ ys) zero = refl
zip_at (x ∷ xs) (y ∷ ys) (suc i) = zip_at xs ys i

both_left : {A B : Type 0} (w : Option A) (v : Option B) (p : A × B) → both w v ≡ Some p
    → w ≡ Some p.0
both_left None v p is = some_none (sym is)
both_left (Some a) None p is = some_none (sym is)
both_left {A} {B} (Some a) (Some b) p is =
    ap (λ (q : A × B). Some q.0) (same_some (a, b) p is)

zip_push : {A B : Type 0} (xs : List A) (ys : List B) (x : A) (y : B) → length ys ≡ length xs
    → zip (xs ++ x ∷ []) (ys ++ y ∷ []) ≡ zip xs ys ++ (x, y) ∷ []
zip_push [] [] x y fits = refl
zip_push [] (b ∷ ys) x y fits = absurd (omega (arith, fits))
zip_push (a ∷ xs) [] x y fits = absurd (omega (arith, fits))
zip_push (a ∷ xs) (b ∷ ys) x y fits =
    ap (λ l. (a, b) ∷ l) (zip_push xs ys x y (omega (arith, fits)))

zip_set : {A B : Type 0} (xs : List A) (ys : List B) (i : ℕ) (x : A) (y : B)
    → slice_get xs i ≡ Some x → length ys ≡ length xs
    → zip xs (set ys i y) ≡ set (zip xs ys) i (x, y)
zip_set [] ys i x y is fits = some_none (sym is)
zip_set (a ∷ xs) [] i x y is fits = absurd (omega (arith, fits))
zip_set (a ∷ xs) (b ∷ ys) zero x y is fits =
    ap (λ k. (k, y) ∷ zip xs ys) (same_some a x is)
zip_set (a ∷ xs) (b ∷ ys) (suc i) x y is fits =
    ap (λ l. (a, b) ∷ l) (zip_set xs ys i x y is (omega (arith, fits)))

keys_push : (entries : List Entry) (e : Entry)
    → map key_of (entries ++ e ∷ []) ≡ map key_of entries ++ key_of e ∷ []
keys_push [] e = refl
keys_push (d ∷ entries) e = ap (λ l. key_of d ∷ l) (keys_push entries e)

length_keys : (entries : List Entry) → length (map key_of entries) ≡ length entries
length_keys [] = refl
length_keys (e ∷ entries) = ap suc (length_keys entries)

module _ (entries : List Entry) (legs : List ℕ) where
  counted_at : (i : ℕ) → slice_get (counts_of entries legs) i
      ≡ both (option_map key_of (slice_get entries i)) (slice_get legs i)
  counted_at i = zip_at (map key_of entries) legs i
      ∙ ap (λ w. both w (slice_get legs i)) (slice_get-map key_of entries i)

  counted_entry : (i : ℕ) (p : Count) → slice_get (counts_of entries legs) i ≡ Some p
      → (e : Entry) × (slice_get entries i ≡ Some e) × (key_of e ≡ counted_id p)
  counted_entry i p is = entry (slice_get entries i) refl
      (both_left _ _ p (sym (counted_at i) ∙ is)) where
        entry : (w : Option Entry) → slice_get entries i ≡ w → option_map key_of w ≡ Some p.0
            → (e : Entry) × (slice_get entries i ≡ Some e) × (key_of e ≡ counted_id p)
        entry None at keyed = some_none (sym keyed)
        entry (Some e) at keyed = (e, at, same_some (key_of e) p.0 keyed)

  module _ (apart : AreApart key_of (row_in entries)) where
    counts_apart : AreApart counted_id (row_in (counts_of entries legs))
    counts_apart = record {
      apart = λ i j p q at there same.
          (let d = counted_entry i p at in
          let e = counted_entry j q there in
          apart.apart i j d.0 e.0 d.1 e.1 (d.2 ∙ (same ∙ sym e.2)));
    }

module _ (entries : List Entry) (legs : List ℕ) where
  IsSwapped-counts : (next : List Entry) (after : List ℕ) (j last : ℕ)
      → IsSwapped entries next j last → IsSwapped legs after j last
      → IsSwapped (counts_of entries legs) (counts_of next after) j last
  IsSwapped-counts next after j last s t = record {
    here = λ differ. same j last (s.here differ) (t.here differ);
    end = counted_at next after last ∙ ap (λ w. both (option_map key_of w) (slice_get after last))
        s.end;
    others = λ i p q. same i i (s.others i p q) (t.others i p q);
  } where
    same : (i k : ℕ) → slice_get next i ≡ slice_get entries k
        → slice_get after i ≡ slice_get legs k
        → slice_get (counts_of next after) i ≡ slice_get (counts_of entries legs) k
    same i k keys counts = counted_at next after i
        ∙ (ap (λ w. both (option_map key_of w) (slice_get after i)) keys
        ∙ (ap (both (option_map key_of (slice_get entries k))) counts
        ∙ sym (counted_at entries legs k)))

  module _ (apart : AreApart key_of (row_in entries)) where
    counts_map : IsMapOf counted_id legs_in (row_in (counts_of entries legs))
        (leg_counts_of entries legs)
    counts_map = IsMapOf-rows nat_list_cmp_total exact_bytes counted_id legs_in
        (counts_of entries legs)
        (counts_apart entries legs apart)

    -- each number of legs belongs to an entry
    pub counted_key : (id : List ℕ) (n : ℕ) → fin.get (leg_counts_of entries legs) id ≡ Some n
        → (j : ℕ) × (e : Entry) × (slice_get entries j ≡ Some e) × (key_of e ≡ id)
    counted_key id n is =
        let stands = counts_map.stands id n is in
        let e = counted_entry entries legs stands.0 stands.1 stands.2.there in
        (stands.0, e.0, e.1, e.2 ∙ stands.2.key_is)

    module _ (fits : length legs ≡ length entries) (j : ℕ) (e : Entry)
        (at : slice_get entries j ≡ Some e) where
      within : j < length legs
      within = omega (arith, slice_get_within entries j e at, fits)

      abbrev count : ℕ
      count = get_or legs j 0

      stands_there : slice_get legs j ≡ Some count
      stands_there = slice_get-get_or legs j 0 within

      pair_at : slice_get (counts_of entries legs) j ≡ Some (key_of e, count)
      pair_at = counted_at entries legs j ∙ (ap (λ w. both (option_map key_of w) (slice_get legs
          j)) at
          ∙ ap (both (Some (key_of e))) stands_there)

      -- the number of legs at the place of an entry
      pub count_at : fin.get (leg_counts_of entries legs) (key_of e) ≡ slice_get legs j
      count_at = counts_map.has j (key_of e, count) pair_at ∙ sym stands_there

      pub counts_set : (n : ℕ) → leg_counts_of entries (set legs j n)
          ≡ fin.insert (leg_counts_of entries legs) (key_of e) n
      counts_set n =
          ap (map_of counted_id legs_in) (zip_set (map key_of entries) legs j (key_of e) n
          (slice_get-map key_of entries j ∙ ap (option_map key_of) at)
          (fits ∙ sym (length_keys entries)))
          ∙ map_set nat_list_cmp_total exact_bytes counted_id legs_in (counts_of entries legs) j
          (key_of e, count) (key_of e, n)
          (counts_apart entries legs apart)
          (slice_get_within (counts_of entries legs) j (key_of e, count) pair_at) pair_at refl

      -- an entry goes, and the last takes its place
      pub counts_remove : (next : List Entry) (after : List ℕ) (last : ℕ)
          → AreApart key_of (row_in next) → IsSwapped entries next j last
          → IsSwapped legs after j last
          → leg_counts_of next after ≡ fin.remove (leg_counts_of entries legs) (key_of e)
      counts_remove next after last left s t =
          map_swapped nat_list_cmp_total exact_bytes counted_id legs_in (counts_of entries legs)
          (counts_of next after) (counts_apart entries legs apart)
          (counts_apart next after left) j last
          (IsSwapped-counts next after j last s t) (key_of e, count) pair_at

    -- one more entry
    pub counts_put : length legs ≡ length entries → (e : Entry) (n : ℕ)
        → fin.get (leg_counts_of entries legs) (key_of e) ≡ None
        → leg_counts_of (entries ++ e ∷ []) (legs ++ n ∷ [])
        ≡ fin.insert (leg_counts_of entries legs) (key_of e) n
    counts_put fits e n new =
        ap (map_of counted_id legs_in)
        (ap (λ l. zip l (legs ++ n ∷ [])) (keys_push entries e)
        ∙ zip_push (map key_of entries) legs (key_of e) n (fits ∙ sym (length_keys entries)))
        ∙ map_push nat_list_cmp_total exact_bytes counted_id legs_in (counts_of entries legs)
        (key_of e, n) new
