-- How many entries a finite map has after one of them changes or goes.
use Rattle.std.proofs.Common.{◌≡◌, ◌≤◌, ◌<◌, ℕ, ap, refl, Some, None, arith}
use Rattle.std.specs.Prelude.{Option}
use Rattle.std.specs.Option.{option_map}
use Rattle.std.specs.declared.cmp.Ordering.{Ordering}
use Rattle.std.specs.Cmp.{IsTotalOrder}
use Rattle.std.specs.FinMap as fin
use Rattle.std.specs.FinMap.{FinMap, IsAntisymmetric}
use Rattle.keyed.specs.Maps.{put_if, update}
use Rattle.keyed.proofs.Maps.{insert_over, len_less, len_more, remove_absent}
use Rattle.keyed.proofs.Maps.{Changed-remove}

module _ {K V : Type 0} {R : K → K → Ordering} (o : IsTotalOrder R) (same : IsAntisymmetric R)
    (m : FinMap R V) (k : K) where
  -- another entry under the same key
  pub len_put : (old new : V) → fin.get m k ≡ Some old
      → fin.len (fin.insert m k new) ≡ fin.len m
  len_put old new there =
      let c = Changed-remove o same m k in
      omega (
        arith,
        ap (λ (n : FinMap R V). fin.len n) (insert_over o same m k new),
        len_more o same (fin.remove m k) k new c.here,
        len_less o same m k old there,
      )

  -- an entry changes, if there is one
  pub len_updated : (f : V → V) → fin.len (update m k f) ≡ fin.len m
  len_updated f = cases (fin.get m k) refl where
    cases : (w : Option V) → fin.get m k ≡ w → fin.len (put_if m k (option_map f w)) ≡ fin.len m
    cases None is = refl
    cases (Some old) is = len_put old (f old) is

  -- an entry goes, if there is one
  pub len_removed : fin.len (fin.remove m k) ≤ fin.len m
  len_removed = cases (fin.get m k) refl where
    cases : (w : Option V) → fin.get m k ≡ w → fin.len (fin.remove m k) ≤ fin.len m
    cases None is =
        omega (arith, ap (λ (n : FinMap R V). fin.len n) (remove_absent o same m k is))
    cases (Some old) is = omega (arith, len_less o same m k old is)

  -- an entry is put under a key: that key has one, or there is a place for one more
  pub len_within : (new : V) (most : ℕ) → fin.len m ≤ most
      → (fin.get m k ≡ None → fin.len m < most) → fin.len (fin.insert m k new) ≤ most
  len_within new most few place = cases (fin.get m k) refl where
    cases : (w : Option V) → fin.get m k ≡ w → fin.len (fin.insert m k new) ≤ most
    cases None is = omega (arith, len_more o same m k new is, place is)
    cases (Some old) is = omega (arith, len_put old new is, few)
