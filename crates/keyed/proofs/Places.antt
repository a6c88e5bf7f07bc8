-- Rows at places and their finite map: what a change of one place does.
use Rattle.std.proofs.Common.{◌≡◌, ◌≢◌, ℕ, refl, sym, ◌∙◌, ap, subst, Some, None}
use Rattle.std.specs.Prelude.{Option}
use Rattle.std.specs.Cmp.{IsTotalOrder}
use Rattle.std.specs.declared.cmp.Ordering.{Ordering}
use Rattle.std.specs.FinMap as fin
use Rattle.std.specs.FinMap.{FinMap, IsAntisymmetric}
use Rattle.keyed.specs.Maps.{Changed}
use Rattle.keyed.specs.Places.{AreApart}
use Rattle.keyed.proofs.Decide.{by_place, some_none, same_some}
use Rattle.keyed.proofs.Maps.{by_key, Changed-insert}

-- a row with this key and this value stands at this place
pub record StandsAt {K V X : Type 0} (key : X → K) (value : X → V) (at : ℕ → Option X) (i : ℕ)
    (r : X) (k : K) (v : V) : Type 0 where
  pub there : at i ≡ Some r
  pub key_is : key r ≡ k
  pub value_is : value r ≡ v

-- the map has the value of each row that stands at a place, under its key, and nothing else
pub record IsMapOf {K V X : Type 0} {R : K → K → Ordering} (key : X → K) (value : X → V)
    (at : ℕ → Option X) (m : FinMap R V) : Type 0 where
  pub has : (i : ℕ) (r : X) → at i ≡ Some r → fin.get m (key r) ≡ Some (value r)
  pub stands : (k : K) (v : V) → fin.get m k ≡ Some v
      → (i : ℕ) × (r : X) × StandsAt key value at i r k v

module _ {K V X : Type 0} {R : K → K → Ordering} (o : IsTotalOrder R) (same : IsAntisymmetric R)
    (key : X → K) (value : X → V) where
  carried : (at : ℕ → Option X) (m n : FinMap R V) → IsMapOf key value at m → IsMapOf key value at n
      → (q : K) (v : V) → fin.get m q ≡ Some v → fin.get n q ≡ Some v
  carried at m n a b q v e =
      let s = a.stands q v e in
      ap (fin.get n) (sym s.2.key_is) ∙ (b.has s.0 s.1 s.2.there ∙ ap Some s.2.value_is)

  -- the places determine the map
  pub one_map : (at : ℕ → Option X) (m n : FinMap R V) → IsMapOf key value at m
      → IsMapOf key value at n → m ≡ n
  one_map at m n a b = fin.same_map o same m n
      (λ q. cases q (fin.get m q) (fin.get n q) refl refl) where
        cases : (q : K) (x y : Option V) → fin.get m q ≡ x → fin.get n q ≡ y
            → fin.get m q ≡ fin.get n q
        cases q (Some v) y p e = p ∙ sym (carried at m n a b q v p)
        cases q None (Some v) p e = some_none (sym (carried at n m b a q v e) ∙ p)
        cases q None None p e = p ∙ sym e

  -- a row is put at a place, and no other place has its key
  pub IsMapOf-put : (at new : ℕ → Option X) (i : ℕ) (r : X) (m : FinMap R V)
      → IsMapOf key value at m → Changed at new i (Some r)
      → ((s : X) → at i ≡ Some s → key s ≡ key r)
      → ((j : ℕ) (s : X) → at j ≡ Some s → key s ≡ key r → j ≡ i)
      → IsMapOf key value new (fin.insert m (key r) (value r))
  IsMapOf-put at new i r m of c stays alone =
      let d = Changed-insert o same m (key r) (value r) in
      record {
        has = λ j s e. by_place j i
            (fin.get (fin.insert m (key r) (value r)) (key s) ≡ Some (value s))
            (λ p. let is : r ≡ s =
            same_some r s (sym c.here ∙ subst (λ (x : ℕ). new x ≡ Some s) p e) in
            subst (λ (x : X). fin.get (fin.insert m (key r) (value r)) (key x)
            ≡ Some (value x)) is d.here)
            (λ differ. let was : at j ≡ Some s = sym (c.others j differ) ∙ e in
            d.others (key s) (λ k. differ (alone j s was k)) ∙ of.has j s was);
        stands = λ k v e. by_key o same k (key r)
            ((j : ℕ) × (s : X) × StandsAt key value new j s k v)
            (λ p. let is : value r ≡ v = same_some (value r) v
            (sym d.here ∙ (ap (fin.get (fin.insert m (key r) (value r))) (sym p) ∙ e)) in
            (i, r, record { there = c.here; key_is = sym p; value_is = is }))
            (λ differ. let s = of.stands k v (sym (d.others k differ) ∙ e) in
            let other : s.0 ≢ i = (λ p. differ (sym s.2.key_is
            ∙ stays s.1 (subst (λ (x : ℕ). at x ≡ Some s.1) p s.2.there))) in (
              s.0,
              s.1,
              record {
                there = c.others s.0 other
                    ∙ s.2.there;
                key_is = s.2.key_is;
                value_is = s.2.value_is;
              },
            ));
      }

-- a row is changed where it stands, and keeps this part
pub AreApart-set : {A X : Type 0} (part : X → A) (at new : ℕ → Option X) (i : ℕ) (old r : X)
    → AreApart part at → at i ≡ Some old
    → part r ≡ part old → Changed at new i (Some r) → AreApart part new
AreApart-set part at new i old r h there keeps c = record {
  apart = λ a b s t p q e. by_place a i (a ≡ b)
      (λ x. by_place b i (a ≡ b) (λ y. x ∙ sym y)
      (λ y. let is : r ≡ s = same_some r s (sym c.here ∙ (ap new (sym x) ∙ p)) in
      x ∙ h.apart i b old t there (sym (c.others b y) ∙ q) (sym keeps ∙ (ap part is ∙ e))))
      (λ x. by_place b i
      (a ≡ b) (λ y. let is : r ≡ t = same_some r t (sym c.here ∙ (ap new (sym y) ∙ q)) in
      h.apart a i s old (sym (c.others a x) ∙ p) there (e ∙ (ap part (sym is) ∙ keeps)) ∙ sym y)
      (λ y. h.apart a b s t (sym (c.others a x) ∙ p) (sym (c.others b y) ∙ q) e));
}

-- a row is put at an empty place, and no other agrees with it in this part
pub AreApart-put : {A X : Type 0} (part : X → A) (at new : ℕ → Option X) (i : ℕ) (r : X)
    → AreApart part at
    → ((j : ℕ) (s : X) → at j ≡ Some s → part s ≢ part r) → Changed at new i (Some r)
    → AreApart part new
AreApart-put part at new i r h none c = record {
  apart = λ a b s t p q e. by_place a i (a ≡ b)
      (λ x. by_place b i (a ≡ b) (λ y. x ∙ sym y)
      (λ y. let is : r ≡ s = same_some r s (sym c.here ∙ (ap new (sym x) ∙ p)) in
      absurd (none b t (sym (c.others b y) ∙ q) (sym e ∙ ap part (sym is)))))
      (λ x. by_place b i
      (a ≡ b) (λ y. let is : r ≡ t = same_some r t (sym c.here ∙ (ap new (sym y) ∙ q)) in
      absurd (none a s (sym (c.others a x) ∙ p) (e ∙ ap part (sym is))))
      (λ y. h.apart a b s t (sym (c.others a x) ∙ p) (sym (c.others b y) ∙ q) e));
}
