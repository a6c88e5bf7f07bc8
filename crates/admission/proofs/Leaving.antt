-- What is left of a call when an endpoint leaves it.
use Rattle.std.proofs.Common.{◌≡◌, ℕ, true, false, List, sym, ◌∙◌, ap, Some, None}
use Rattle.std.specs.Prelude.{Option, is_some, if◌then◌else◌, option_and_then}
use Rattle.std.specs.FinMap as fin
use Rattle.ras_module.specs.declared.call_key.CallKey.{CallKey}
use Rattle.admission.specs.declared.call.Call.{Call}
use Rattle.admission.specs.Legs.{has_other}
use Rattle.admission.specs.inside.Stored.{with_legs_but}
use Rattle.admission.specs.Calls.{OpenCalls, with_legs, rest_of_call, put_or_remove, after_leave}
use Rattle.admission.specs.Calls.{freed_by, freed_by_leave}
use Rattle.admission.proofs.LegLemmas.{other_left, none_left}

-- the legs of others, if another endpoint has one
pub rest-other : (call : Call) (endpoint : List ℕ) → has_other call.legs endpoint ≡ true
    → rest_of_call endpoint call ≡ Some (with_legs_but endpoint call)
rest-other call endpoint other =
    let left = other_left call.legs endpoint other in
    ap (λ legs. with_legs legs call) left.2
    ∙ ap (λ legs. Some (record call { legs = legs })) (sym left.2)

pub rest-last : (call : Call) (endpoint : List ℕ) → has_other call.legs endpoint ≡ false
    → rest_of_call endpoint call ≡ None
rest-last call endpoint last = ap (λ legs. with_legs legs call) (none_left call.legs endpoint last)

module _ (calls : OpenCalls) (key : CallKey) (endpoint : List ℕ) (call : Call)
    (there : fin.get calls key ≡ Some call) where
  left_is : (w : Option Call) → rest_of_call endpoint call ≡ w
      → after_leave calls key endpoint ≡ put_or_remove calls key w
  left_is w rest =
      ap (λ x. put_or_remove calls key (option_and_then (rest_of_call endpoint) x)) there
      ∙ ap (put_or_remove calls key) rest

  freed_is : (w : Option Call) → rest_of_call endpoint call ≡ w → freed_by_leave calls key endpoint
      ≡ (if is_some w then None else Some (call.pool, call.units))
  freed_is w rest = ap (option_and_then (freed_by endpoint)) there
      ∙ ap (λ x. if is_some x then None else Some (call.pool, call.units)) rest

  -- if another endpoint has a leg, the call stays with it, and nothing is freed
  pub after_leave-other : has_other call.legs endpoint ≡ true
      → after_leave calls key endpoint ≡ fin.insert calls key (with_legs_but endpoint call)
  after_leave-other other =
      left_is (Some (with_legs_but endpoint call)) (rest-other call endpoint other)

  pub freed-other : has_other call.legs endpoint ≡ true → freed_by_leave calls key endpoint ≡ None
  freed-other other = freed_is (Some (with_legs_but endpoint call)) (rest-other call endpoint other)

  -- if none has, the call ends, and its units are freed
  pub after_leave-last : has_other call.legs endpoint ≡ false
      → after_leave calls key endpoint ≡ fin.remove calls key
  after_leave-last last = left_is None (rest-last call endpoint last)

  pub freed-last : has_other call.legs endpoint ≡ false
      → freed_by_leave calls key endpoint ≡ Some (call.pool, call.units)
  freed-last last = freed_is None (rest-last call endpoint last)
