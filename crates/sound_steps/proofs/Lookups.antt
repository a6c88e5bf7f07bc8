-- What is found in a finite map after one entry was put, changed or removed was there before, or
-- is that one.
use Rattle.std.proofs.Common.{◌≡◌, refl, sym, ◌∙◌, ap, Some, None}
use Rattle.std.specs.Prelude.{Option}
use Rattle.std.specs.Option.{option_map}
use Rattle.std.specs.declared.cmp.Ordering.{Ordering}
use Rattle.std.specs.Cmp.{IsTotalOrder}
use Rattle.std.specs.FinMap as fin
use Rattle.std.specs.FinMap.{FinMap, IsAntisymmetric}
use Rattle.keyed.specs.Maps.{update}
use Rattle.keyed.proofs.Decide.{same_some, some_none}
use Rattle.keyed.proofs.Maps.{by_key, Changed-insert, Changed-remove, Changed-update}

module _ {K V : Type 0} {R : K → K → Ordering} (o : IsTotalOrder R) (same : IsAntisymmetric R)
    (m : FinMap R V) (k : K) where
  -- an entry was put
  pub was_or_put : (new : V) (q : K) (v : V) (P : Type 0) → fin.get (fin.insert m k new) q ≡ Some v
      → (q ≡ k → new ≡ v → P) → (fin.get m q ≡ Some v → P) → P
  was_or_put new q v P there put was =
      let c = Changed-insert o same m k new in
      by_key o same q k P
      (λ here. put here (same_some new v (sym c.here
      ∙ (ap (fin.get (fin.insert m k new)) (sym here) ∙ there))))
      (λ differ. was (sym (c.others q differ) ∙ there))

  -- one was changed
  pub was_or_changed : (f : V → V) (q : K) (v : V) (P : Type 0)
      → fin.get (update m k f) q ≡ Some v
      → ((old : V) → q ≡ k → fin.get m k ≡ Some old → f old ≡ v → P)
      → (fin.get m q ≡ Some v → P) → P
  was_or_changed f q v P there changed was =
      let c = Changed-update o same m k f in
      by_key o same q k P
      (λ here. at here (fin.get m k) refl
      (sym c.here ∙ (ap (fin.get (update m k f)) (sym here) ∙ there)))
      (λ differ. was (sym (c.others q differ) ∙ there)) where
        at : q ≡ k → (w : Option V) → fin.get m k ≡ w → option_map f w ≡ Some v → P
        at here None is h = absurd (cc h)
        at here (Some old) is h = changed old here is (same_some (f old) v h)

  -- one was removed
  pub was_left : (q : K) (v : V) → fin.get (fin.remove m k) q ≡ Some v → fin.get m q ≡ Some v
  was_left q v there =
      let c = Changed-remove o same m k in
      by_key o same q k (fin.get m q ≡ Some v)
      (λ here. some_none (sym there ∙ (ap (fin.get (fin.remove m k)) here ∙ c.here)))
      (λ differ. sym (c.others q differ) ∙ there)
