-- The sums that are kept beside the calls, after each change of the calls.
use Rattle.std.proofs.Common.{◌≡◌, ◌<◌, ◌≤◌, ◌+◌, ◌^◌, ℕ, List, length}
use Rattle.std.proofs.Common.{refl, sym, ◌∙◌, ap, cond, Some, None, true, false, arith}
use Rattle.std.specs.FinMap as fin
use Rattle.std.proofs.lemmas.Bool.Decides.{Decides-eqb}
use Rattle.indexmap.specs.IndexMap.{IndexMap}
use Rattle.keyed.specs.Maps.{update}
use Rattle.keyed.proofs.Sums.{total-empty}
use Rattle.ras_module.specs.declared.call_key.CallKey.{CallKey}
use Rattle.ras_module.proofs.CallKeyOrder.{call_key_cmp_total, call_key_cmp-IsAntisymmetric}
use Rattle.admission.specs.declared.call.Call.{Call}
use Rattle.admission.specs.declared.in_use.InUse.{InUse}
use Rattle.admission.specs.declared.leg.Leg.{Leg}
use Rattle.admission.specs.Calls.{OpenCalls, units_of, units_from, new_call}
use Rattle.admission.specs.Calls.{with_leg, with_units, after_leave}
use Rattle.admission.specs.Legs.{has_other}
use Rattle.admission.specs.inside.Stored.{AreStored}
use Rattle.admission.specs.inside.Sums.{sum_of, AreZero, Grows, AreSums}
use Rattle.admission.proofs.Soundness.{total-part, in_use-open, in_use_of-open, in_use-join}
use Rattle.admission.proofs.Soundness.{in_use_of-join, in_use-set_units, in_use_of-set_units}
use Rattle.admission.proofs.Soundness.{in_use-left, in_use_of-left, in_use-ended, in_use_of-ended}
use Rattle.admission.proofs.StoredCalls.{open_of, table_of, sum_bound, units_below}

pub AreSums-empty : (u : InUse) → AreZero u → AreSums u fin.empty
AreSums-empty u zero = record {
  total = zero.total
      ∙ sym (total-empty call_key_cmp_total call_key_cmp-IsAntisymmetric units_of);
  pools = λ p below. zero.pools p
      ∙ sym (total-empty call_key_cmp_total call_key_cmp-IsAntisymmetric (units_from p));
}

-- the sums are small, so that none is too large to be kept
module _ {S : Type 0} (calls : IndexMap CallKey Call S) (most : ℕ) (stored : AreStored calls most)
    (u : InUse) (s : AreSums u (open_of calls)) where
  pub small_total : u.total < 2 ^ 47
  small_total =
      omega (
        arith,
        s.total,
        sum_bound calls most (table_of calls most) stored refl units_of (λ call. omega arith),
      )

  pub small_sum : (p : ℕ) → p < length u.by_pool → sum_of u p < 2 ^ 47
  small_sum p below =
      omega (
        arith,
        s.pools p below,
        sum_bound calls most (table_of calls most) stored refl (units_from p) (units_below p),
      )

  -- and so none is too large to be raised by the units of one call more
  pub raised_total : (v : InUse) (pool before units : ℕ) → Grows v u pool before → units < 2 ^ 32
      → v.total + units < 2 ^ 64
  raised_total v pool before units less small = omega (arith, less.total, small_total, small)

  pub raised_sum : (v : InUse) (pool before units : ℕ) → Grows v u pool before → units < 2 ^ 32
      → pool < length v.by_pool → sum_of v pool + units < 2 ^ 64
  raised_sum v pool before units less small below =
      let within : pool < length u.by_pool = omega (arith, below, less.same_length) in
      omega (arith, less.pools pool below, small_sum pool within, small)

own_units : (call : Call) → units_from call.pool call ≡ call.units
own_units call = ap (λ b. cond b call.units 0) ((Decides-eqb call.pool call.pool).1 refl)

module _ (calls : OpenCalls) (key : CallKey) (u : InUse) (s : AreSums u calls) where
  -- a call is a part of the sums
  pub part_of_total : (call : Call) → fin.get calls key ≡ Some call → call.units ≤ u.total
  part_of_total call there = omega (arith, s.total, total-part units_of calls key call there)

  pub part_of_sum : (call : Call) → fin.get calls key ≡ Some call
      → call.pool < length u.by_pool → call.units ≤ sum_of u call.pool
  part_of_sum call there below =
      omega (
        arith,
        s.pools call.pool below,
        own_units call,
        total-part (units_from call.pool) calls key call there,
      )

  pub AreSums-open : (v : InUse) (pool units : ℕ) (leg : Leg) → Grows u v pool units
      → fin.get calls key ≡ None
      → AreSums v (fin.insert calls key (new_call pool units leg))
  AreSums-open v pool units leg g absent = record {
    total = omega (arith, g.total, s.total, in_use-open calls key pool units leg absent);
    pools = λ p below.
        (let within : p < length u.by_pool = omega (arith, below, g.same_length) in
        omega (
          arith,
          g.pools p within,
          s.pools p within,
          in_use_of-open calls key p pool units leg absent,
        ));
  }

  pub AreSums-join : (call : Call) (leg : Leg) → fin.get calls key ≡ Some call
      → AreSums u (update calls key (with_leg leg))
  AreSums-join call leg there = record {
    total = s.total ∙ sym (in_use-join calls key call leg there);
    pools = λ p below. s.pools p below ∙ sym (in_use_of-join calls key p call leg there);
  }

  pub AreSums-set_units : (v w : InUse) (call : Call) (units : ℕ) → fin.get calls key ≡ Some call
      → Grows v u call.pool call.units → Grows v w call.pool units
      → AreSums w (update calls key (with_units units))
  AreSums-set_units v w call units there less more = record {
    total = omega (
      arith,
      less.total,
      more.total,
      s.total,
      in_use-set_units calls key call units there,
    );
    pools = λ p below.
        (let within : p < length u.by_pool =
        omega (arith, below, less.same_length, more.same_length) in
        let among : p < length v.by_pool = omega (arith, below, more.same_length) in
        omega (
          arith,
          less.pools p among,
          more.pools p among,
          s.pools p within,
          in_use_of-set_units calls key p call units there,
        ));
  }

  pub AreSums-left : (call : Call) (endpoint : List ℕ) → fin.get calls key ≡ Some call
      → has_other call.legs endpoint ≡ true → AreSums u (after_leave calls key endpoint)
  AreSums-left call endpoint there other = record {
    total = s.total ∙ sym (in_use-left calls key call endpoint there other);
    pools = λ p below. s.pools p below ∙ sym (in_use_of-left calls key p call endpoint there other);
  }

  pub AreSums-ended : (v : InUse) (call : Call) (endpoint : List ℕ)
      → fin.get calls key ≡ Some call → Grows v u call.pool call.units
      → has_other call.legs endpoint ≡ false → AreSums v (after_leave calls key endpoint)
  AreSums-ended v call endpoint there less last = record {
    total = omega (arith, less.total, s.total, in_use-ended calls key call endpoint there last);
    pools = λ p below.
        (let within : p < length u.by_pool = omega (arith, below, less.same_length) in
        omega (
          arith,
          less.pools p below,
          s.pools p within,
          in_use_of-ended calls key p call endpoint there last,
        ));
  }
