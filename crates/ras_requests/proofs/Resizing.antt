-- A call for which its pool is asked for more.
use Rattle.std.proofs.Common.{◌≡◌, ◌<◌, ◌≤◌, ◌-◌, ◌==◌, ℕ, Bool, false, min, length, refl, sym, ◌∙◌}
use Rattle.std.proofs.Common.{ap, Some, arith}
use Rattle.std.specs.Prelude.{nat_le, if◌then◌else◌}
use Rattle.std.specs.FinMap as fin
use Rattle.std.proofs.lemmas.Bool.Decides.{nat_tests}
use Rattle.ras_module.specs.declared.request.BandwidthRequest.{BandwidthRequest}
use Rattle.ras_module.specs.declared.request.Request.TheVariants.{Brq}
use Rattle.admission.specs.declared.call.Call.{Call}
use Rattle.admission.specs.Calls.{in_use}
use Rattle.zone_tables.specs.declared.unit_request.Purpose.TheVariants.{Raising}
use Rattle.zone_tables.specs.Tables.{Tables}
use Rattle.ras_requests.specs.Brq.{least_units, lowering, raising, resizing, staying, units_left}
use Rattle.ras_requests.specs.Brq.{wanted}
use Rattle.ras_requests.specs.Plans.{Settled, Asking}
use Rattle.ras_requests.specs.Planned.{RequestsUnits}

module _ (z : Tables) (q : BandwidthRequest) (call : Call) (w r n l : ℕ) where
  pub RequestsUnits-resizing : fin.get z.calls q.call ≡ Some call → call.pool < length z.pools
      → in_use z.calls ≤ z.config.limit → w ≡ wanted z q.asked → call.units < w → r ≡ units_left z
      → 0 < r → n ≡ min (w - call.units) r → l ≡ least_units z w - call.units
      → RequestsUnits z (Brq q) (resizing z q call) (record {
        call = q.call;
        pool = call.pool;
        units = n;
        least = l;
        purpose = Raising call.units;
      })
  RequestsUnits-resizing there below within w_is more r_is some n_is l_is =
      let wants : nat_le (wanted z q.asked) call.units ≡ false =
      grind (arith, nat_tests, w_is, more) in
      let has : (units_left z == 0) ≡ false = grind (arith, nat_tests, r_is, some) in
      let units : min (wanted z q.asked - call.units) (units_left z) ≡ n =
      ap (λ x. min (x - call.units) (units_left z)) (sym w_is)
      ∙ (ap (λ x. min (w - call.units) x) (sym r_is) ∙ sym n_is) in
      let least : least_units z (wanted z q.asked) - call.units ≡ l =
      ap (λ x. least_units z x - call.units) (sym w_is) ∙ sym l_is in
      record {
        may = record {
          some = omega (arith, n_is, more, some);
          limit = omega (arith, n_is, r_is, some, within);
          pool = below;
          purpose = record {
            call = call;
            there = there;
            pool_is = refl;
            units_are = refl;
            limit = omega (arith, n_is, w_is, more);
          };
        };
        names = refl;
        registered = tt;
        is =
            ap (λ (b : Bool). if b then Settled (lowering z q call (wanted z q.asked))
            else if units_left z == 0 then Settled (staying z q call)
            else Asking
            (record {
              pool = call.pool;
              units = min (wanted z q.asked - call.units) (units_left z);
              least = least_units z (wanted z q.asked) - call.units;
            })
            (raising z q call) (staying z q call)) wants
            ∙ (ap (λ (b : Bool). if b then Settled (staying z q call)
            else Asking
            (record {
              pool = call.pool;
              units = min (wanted z q.asked - call.units) (units_left z);
              least = least_units z (wanted z q.asked) - call.units;
            })
            (raising z q call) (staying z q call)) has
            ∙ (λ i. Asking (record { pool = call.pool; units = units i; least = least i })
            (raising z q call) (staying z q call)));
      }
