-- What each change of the calls does to the bandwidth in use, to that of one pool, and to the legs
-- of an endpoint; and that calls stay calls.
use Rattle.std.proofs.Common.{◌≡◌, ◌≢◌, ℕ, ◌+◌, ◌≤◌, Bool, true, false, List, [], ◌∷◌, ◌++◌, nat_eq}
use Rattle.std.proofs.Common.{refl, sym, ◌∙◌, ap, subst, cond, Some, None, arith, not}
use Rattle.std.specs.Prelude.{Option, is_some, if◌then◌else◌, All}
use Rattle.std.specs.Option.{option_map}
use Rattle.std.specs.Cmp.Lexicographic.{pointwise}
use Rattle.std.specs.FinMap as fin
use Rattle.std.proofs.lemmas.List.Elements.{All-nil, All-cons, All-push, All-filter}
use Rattle.std.proofs.lemmas.Bool.{false_from_ne_true}
use Rattle.keyed.specs.Maps.{total, update, put_if}
use Rattle.keyed.proofs.Maps.{update_there}
use Rattle.keyed.proofs.Sums.{total-insert, total-remove, total-change}
use Rattle.keyed.proofs.Values.{total_ge, total_le}
use Rattle.ras_module.specs.declared.call_key.CallKey.{CallKey}
use Rattle.ras_module.specs.Same.{texts_decide}
use Rattle.ras_module.proofs.CallKeyOrder.{call_key_cmp_total, call_key_cmp-IsAntisymmetric}
use Rattle.admission.specs.declared.call.Call.{Call}
use Rattle.admission.specs.declared.leg.Leg.{Leg}
use Rattle.admission.specs.Calls.{OpenCalls, EachCall, EachLeg, units_of, in_use, units_from}
use Rattle.admission.specs.Calls.{in_use_of, legs_in, has_leg, leg_count, legs_of, IsInNoCall}
use Rattle.admission.specs.Calls.{new_call, with_leg, with_units, after_leave}
use Rattle.admission.specs.Legs.{leg_of, without_leg, has_other}
use Rattle.admission.specs.inside.Stored.{with_legs_but}
use Rattle.admission.proofs.Leaving.{after_leave-other, after_leave-last}
use Rattle.admission.proofs.LegLemmas.{none_left}
use Rattle.admission.proofs.StoredCalls.{EachCall-insert, EachCall-remove, none_from}

-- 1 if the two endpoints are the same, and else 0
abbrev pub one_if_same : List ℕ → List ℕ → ℕ
one_if_same a b = if pointwise nat_eq a b then 1 else 0

-- what one more call, a change of one and its end do to the sum of any figure
module _ (figure : Call → ℕ) (calls : OpenCalls) (key : CallKey) where
  pub total-open : (call : Call) → fin.get calls key ≡ None
      → total figure (fin.insert calls key call) ≡ figure call + total figure calls
  total-open call absent =
      total-insert call_key_cmp_total call_key_cmp-IsAntisymmetric figure calls key call absent

  pub total-update : (call : Call) (change : Call → Call) → fin.get calls key ≡ Some call
      → total figure (update calls key change) + figure call
      ≡ total figure calls + figure (change call)
  total-update call change there =
      omega (
        arith,
        ap (total figure) (update_there call_key_cmp_total call_key_cmp-IsAntisymmetric
            calls key call change there),
        total-change call_key_cmp_total call_key_cmp-IsAntisymmetric figure calls key
            call (change call) there,
      )

  -- a figure that the change keeps
  pub total-kept : (call : Call) (change : Call → Call) → fin.get calls key ≡ Some call
      → figure (change call) ≡ figure call
      → total figure (update calls key change) ≡ total figure calls
  total-kept call change there keeps = omega (arith, total-update call change there, keeps)

  -- an endpoint leaves a call in which another stays
  pub total-left : (call : Call) (endpoint : List ℕ) → fin.get calls key ≡ Some call
      → has_other call.legs endpoint ≡ true
      → total figure (after_leave calls key endpoint) + figure call
      ≡ total figure calls + figure (with_legs_but endpoint call)
  total-left call endpoint there other =
      omega (
        arith,
        ap (total figure) (after_leave-other calls key endpoint call there other),
        total-change call_key_cmp_total call_key_cmp-IsAntisymmetric figure calls key call
            (with_legs_but endpoint call) there,
      )

  -- and one in which none stays
  pub total-ended : (call : Call) (endpoint : List ℕ) → fin.get calls key ≡ Some call
      → has_other call.legs endpoint ≡ false
      → total figure calls ≡ figure call + total figure (after_leave calls key endpoint)
  total-ended call endpoint there last =
      total-remove call_key_cmp_total call_key_cmp-IsAntisymmetric figure calls key call there
      ∙ ap (λ m. figure call + total figure m)
      (sym (after_leave-last calls key endpoint call there last))

  pub total-part : (call : Call) → fin.get calls key ≡ Some call → figure call ≤ total figure calls
  total-part call there =
      total_ge call_key_cmp_total call_key_cmp-IsAntisymmetric figure calls key call there

-- bandwidth in use, and that of a pool
module _ (calls : OpenCalls) (key : CallKey) where
  pub in_use-open : (pool units : ℕ) (leg : Leg) → fin.get calls key ≡ None
      → in_use (fin.insert calls key (new_call pool units leg)) ≡ in_use calls + units
  in_use-open pool units leg absent =
      omega (arith, total-open units_of calls key (new_call pool units leg) absent)

  pub in_use_of-open : (p pool units : ℕ) (leg : Leg) → fin.get calls key ≡ None
      → in_use_of (fin.insert calls key (new_call pool units leg)) p
      ≡ in_use_of calls p + (if nat_eq pool p then units else 0)
  in_use_of-open p pool units leg absent =
      omega (arith, total-open (units_from p) calls key (new_call pool units leg) absent)

  -- a second endpoint takes no units
  pub in_use-join : (call : Call) (leg : Leg) → fin.get calls key ≡ Some call
      → in_use (update calls key (with_leg leg)) ≡ in_use calls
  in_use-join call leg there = total-kept units_of calls key call (with_leg leg) there refl

  pub in_use_of-join : (p : ℕ) (call : Call) (leg : Leg) → fin.get calls key ≡ Some call
      → in_use_of (update calls key (with_leg leg)) p ≡ in_use_of calls p
  in_use_of-join p call leg there =
      total-kept (units_from p) calls key call (with_leg leg) there refl

  pub in_use-set_units : (call : Call) (units : ℕ) → fin.get calls key ≡ Some call
      → in_use (update calls key (with_units units)) + call.units ≡ in_use calls + units
  in_use-set_units call units there = total-update units_of calls key call (with_units units) there

  pub in_use_of-set_units : (p : ℕ) (call : Call) (units : ℕ) → fin.get calls key ≡ Some call
      → in_use_of (update calls key (with_units units)) p + units_from p call
      ≡ in_use_of calls p + (if nat_eq call.pool p then units else 0)
  in_use_of-set_units p call units there =
      total-update (units_from p) calls key call (with_units units) there

  -- an endpoint that leaves frees units only if its leg is the last
  pub in_use-left : (call : Call) (endpoint : List ℕ) → fin.get calls key ≡ Some call
      → has_other call.legs endpoint ≡ true
      → in_use (after_leave calls key endpoint) ≡ in_use calls
  in_use-left call endpoint there other =
      omega (arith, total-left units_of calls key call endpoint there other)

  pub in_use_of-left : (p : ℕ) (call : Call) (endpoint : List ℕ) → fin.get calls key ≡ Some call
      → has_other call.legs endpoint ≡ true
      → in_use_of (after_leave calls key endpoint) p ≡ in_use_of calls p
  in_use_of-left p call endpoint there other =
      omega (arith, total-left (units_from p) calls key call endpoint there other)

  pub in_use-ended : (call : Call) (endpoint : List ℕ) → fin.get calls key ≡ Some call
      → has_other call.legs endpoint ≡ false
      → in_use calls ≡ in_use (after_leave calls key endpoint) + call.units
  in_use-ended call endpoint there last =
      omega (arith, total-ended units_of calls key call endpoint there last)

  pub in_use_of-ended : (p : ℕ) (call : Call) (endpoint : List ℕ) → fin.get calls key ≡ Some call
      → has_other call.legs endpoint ≡ false
      → in_use_of calls p ≡ in_use_of (after_leave calls key endpoint) p
      + (if nat_eq call.pool p then call.units else 0)
  in_use_of-ended p call endpoint there last =
      omega (arith, total-ended (units_from p) calls key call endpoint there last)

-- 1 if a test passes, and else 0, as `leg_count` counts
abbrev count : Bool → ℕ
count b = if b then 1 else 0

abbrev has_leg_in : List Leg → List ℕ → Bool
has_leg_in legs x = is_some (leg_of legs x)

abbrev is_of : List ℕ → Leg → Bool
is_of x leg = pointwise nat_eq leg.endpoint x

-- an endpoint that is one of two different ones isn't the other
other_than : (a b x : List ℕ) → a ≡ x → pointwise nat_eq a b ≡ false → pointwise nat_eq b x ≡ false
other_than a b x e h = false_from_ne_true (pointwise nat_eq b x)
    (λ t. cc (h, (texts_decide a b).1 (e ∙ sym ((texts_decide b x).0 t))))

still_other : (a b x : List ℕ) → a ≡ b → pointwise nat_eq b x ≡ false → pointwise nat_eq a x ≡ false
still_other a b x e h = ap (λ y. pointwise nat_eq y x) e ∙ h

one_found : (b : Bool) (leg : Leg) → is_some (cond b (Some leg) None) ≡ b
one_found true leg = refl
one_found false leg = refl

has-push : (legs : List Leg) (leg : Leg) (x : List ℕ) → leg_of legs leg.endpoint ≡ None
    → count (has_leg_in (legs ++ leg ∷ []) x)
    ≡ count (has_leg_in legs x) + one_if_same leg.endpoint x
has-push [] leg x none = omega (arith, ap count (one_found (is_of x leg) leg))
has-push (l ∷ legs) leg x none =
    cases (has-push legs leg x) (is_of x l) refl (is_of leg.endpoint l) refl none where
      cases : (leg_of legs leg.endpoint ≡ None → count (has_leg_in (legs ++ leg ∷ []) x)
          ≡ count (has_leg_in legs x) + one_if_same leg.endpoint x)
          → (b : Bool) → is_of x l ≡ b → (d : Bool) → is_of leg.endpoint l ≡ d
          → cond d (Some l) (leg_of legs leg.endpoint) ≡ None
          → count (is_some (cond b (Some l) (leg_of (legs ++ leg ∷ []) x)))
          ≡ count (is_some (cond b (Some l) (leg_of legs x))) + one_if_same leg.endpoint x
      cases rest true is true that h = absurd (cc h)
      cases rest true is false that h =
          omega (
            arith,
            ap count (other_than l.endpoint leg.endpoint x ((texts_decide l.endpoint x).0 is) that),
          )
      cases rest false is true that h = absurd (cc h)
      cases rest false is false that h = rest h

-- an endpoint that left has no leg, and each other has what it had
has-left : (legs : List Leg) (e : List ℕ) → has_leg_in (without_leg legs e) e ≡ false
has-left [] e = refl
has-left (l ∷ legs) e = cases (has-left legs e) (is_of e l) refl where
  cases : has_leg_in (without_leg legs e) e ≡ false → (b : Bool) → is_of e l ≡ b
      → has_leg_in (cond (not b) (l ∷ without_leg legs e) (without_leg legs e)) e ≡ false
  cases rest true is = rest
  cases rest false is =
      ap (λ b. is_some (cond b (Some l) (leg_of (without_leg legs e) e))) is ∙ rest

has-stayed : (legs : List Leg) (e x : List ℕ) → pointwise nat_eq e x ≡ false
    → has_leg_in (without_leg legs e) x ≡ has_leg_in legs x
has-stayed [] e x differ = refl
has-stayed (l ∷ legs) e x differ = cases (has-stayed legs e x differ) (is_of e l) refl where
  again : has_leg_in (without_leg legs e) x ≡ has_leg_in legs x → (b : Bool)
      → is_some (cond b (Some l) (leg_of (without_leg legs e) x))
      ≡ is_some (cond b (Some l) (leg_of legs x))
  again rest true = refl
  again rest false = rest

  cases : has_leg_in (without_leg legs e) x ≡ has_leg_in legs x → (b : Bool) → is_of e l ≡ b
      → has_leg_in (cond (not b) (l ∷ without_leg legs e) (without_leg legs e)) x
      ≡ is_some (cond (is_of x l) (Some l) (leg_of legs x))
  cases rest true is =
      rest ∙ sym (ap (λ b. is_some (cond b (Some l) (leg_of legs x)))
      (still_other l.endpoint e x ((texts_decide l.endpoint e).0 is) differ))
  cases rest false is = again rest (is_of x l)

has-leave : (legs : List Leg) (e x : List ℕ) → has_leg_in legs e ≡ true
    → count (has_leg_in (without_leg legs e) x) + one_if_same e x ≡ count (has_leg_in legs x)
has-leave legs e x has = cases (pointwise nat_eq e x) refl where
  cases : (b : Bool) → pointwise nat_eq e x ≡ b
      → count (has_leg_in (without_leg legs e) x) + count b ≡ count (has_leg_in legs x)
  cases true is =
      let same = (texts_decide e x).0 is in
      let gone = ap (λ y. has_leg_in (without_leg legs e) y) (sym same) ∙ has-left legs e in
      let had = ap (has_leg_in legs) (sym same) ∙ has in
      omega (arith, ap count gone, ap count had)
  cases false is = omega (arith, ap count (has-stayed legs e x is))

-- the legs of an endpoint x
module _ (calls : OpenCalls) (key : CallKey) (x : List ℕ) where
  pub legs_of-open : (pool units : ℕ) (leg : Leg) → fin.get calls key ≡ None
      → legs_of (fin.insert calls key (new_call pool units leg)) x
      ≡ legs_of calls x + one_if_same leg.endpoint x
  legs_of-open pool units leg absent =
      omega (
        arith,
        total-open (leg_count x) calls key (new_call pool units leg) absent,
        ap count (one_found (is_of x leg) leg),
      )

  pub legs_of-join : (call : Call) (leg : Leg) → fin.get calls key ≡ Some call
      → leg_of call.legs leg.endpoint ≡ None
      → legs_of (update calls key (with_leg leg)) x ≡ legs_of calls x + one_if_same leg.endpoint x
  legs_of-join call leg there none =
      omega (
        arith,
        total-update (leg_count x) calls key call (with_leg leg) there,
        has-push call.legs leg x none,
      )

  pub legs_of-set_units : (call : Call) (units : ℕ) → fin.get calls key ≡ Some call
      → legs_of (update calls key (with_units units)) x ≡ legs_of calls x
  legs_of-set_units call units there =
      total-kept (leg_count x) calls key call (with_units units) there refl

  pub legs_of-leave : (call : Call) (endpoint : List ℕ) → fin.get calls key ≡ Some call
      → has_leg endpoint call ≡ true
      → legs_of (after_leave calls key endpoint) x + one_if_same endpoint x ≡ legs_of calls x
  legs_of-leave call endpoint there has = cases (has_other call.legs endpoint) refl where
    cases : (b : Bool) → has_other call.legs endpoint ≡ b
        → legs_of (after_leave calls key endpoint) x + one_if_same endpoint x ≡ legs_of calls x
    cases true other =
        omega (
          arith,
          total-left (leg_count x) calls key call endpoint there other,
          has-leave call.legs endpoint x has,
        )
    cases false last =
        let none : count (has_leg_in (without_leg call.legs endpoint) x) ≡ 0 =
        ap (λ legs. count (has_leg_in legs x)) (none_left call.legs endpoint last) in
        omega (
          arith,
          total-ended (leg_count x) calls key call endpoint there last,
          has-leave call.legs endpoint x has,
          none,
        )

-- an endpoint has no more legs than there are calls
pub legs_of-few : (calls : OpenCalls) (x : List ℕ) → legs_of calls x ≤ fin.len calls
legs_of-few calls x =
    omega (
      arith,
      total_le call_key_cmp_total call_key_cmp-IsAntisymmetric (leg_count x) 1 calls
          (λ key call there. at_most_one (has_leg x call)),
    ) where
      at_most_one : (b : Bool) → count b ≤ 1
      at_most_one true = omega arith
      at_most_one false = omega arith

zero_count : (b : Bool) → count b ≤ 0 → b ≡ false
zero_count true h = absurd (omega arith)
zero_count false h = refl

-- an endpoint has no leg if and only if it is in no call
pub IsInNoCall-zero : (calls : OpenCalls) (x : List ℕ) → legs_of calls x ≡ 0 → IsInNoCall calls x
IsInNoCall-zero calls x zero key = cases (fin.get calls key) refl where
  cases : (w : Option Call) → fin.get calls key ≡ w → leg_of (legs_in w) x ≡ None
  cases None is = refl
  cases (Some call) is = none_from (leg_of call.legs x) (zero_count (has_leg x call)
      (omega (arith, zero, total-part (leg_count x) calls key call is)))

pub legs_of-none : (calls : OpenCalls) (x : List ℕ) → IsInNoCall calls x → legs_of calls x ≡ 0
legs_of-none calls x none =
    omega (
      arith,
      total_le call_key_cmp_total call_key_cmp-IsAntisymmetric
          (leg_count x) 0 calls (λ key call there.
          (let is : leg_of call.legs x ≡ None = ap (λ w. leg_of (legs_in w) x) (sym there)
          ∙ none key in
          omega (arith, ap (λ w. count (is_some w)) is))),
    )

-- what holds of each call, or of each leg, after each change
module _ (P : Call → Type 0) (calls : OpenCalls) (key : CallKey) (each : EachCall P calls) where
  pub EachCall-update : (change : Call → Call)
      → ((call : Call) → fin.get calls key ≡ Some call → P (change call))
      → EachCall P (update calls key change)
  EachCall-update change is = cases (fin.get calls key) refl where
    cases : (w : Option Call) → fin.get calls key ≡ w → EachCall P (update calls key change)
    cases None there =
        subst (EachCall P) (sym (ap (λ w. put_if calls key (option_map change w)) there)) each
    cases (Some call) there =
        subst (EachCall P) (sym (update_there call_key_cmp_total call_key_cmp-IsAntisymmetric
        calls key call change there))
        (EachCall-insert P calls key (change call) each (is call there))

  pub EachCall-leave : (call : Call) (endpoint : List ℕ) → fin.get calls key ≡ Some call
      → (has_other call.legs endpoint ≡ true → P (with_legs_but endpoint call))
      → EachCall P (after_leave calls key endpoint)
  EachCall-leave call endpoint there is = cases (has_other call.legs endpoint) refl where
    cases : (b : Bool) → has_other call.legs endpoint ≡ b
        → EachCall P (after_leave calls key endpoint)
    cases true other =
        subst (EachCall P) (sym (after_leave-other calls key endpoint call there other))
        (EachCall-insert P calls key (with_legs_but endpoint call) each (is other))
    cases false last =
        subst (EachCall P) (sym (after_leave-last calls key endpoint call there last))
        (EachCall-remove P calls key each)

pub EachCall-empty : (P : Call → Type 0) → EachCall P fin.empty
EachCall-empty P key call there = absurd (cc (sym there ∙ fin.get-empty _ key))

module _ (P : Leg → Type 0) (calls : OpenCalls) (key : CallKey) (each : EachLeg P calls) where
  pub EachLeg-open : (pool units : ℕ) (leg : Leg) → P leg
      → EachLeg P (fin.insert calls key (new_call pool units leg))
  EachLeg-open pool units leg is = EachCall-insert (λ call. All P call.legs) calls key
      (new_call pool units leg) each (All-cons P leg [] is (All-nil P))

  pub EachLeg-join : (leg : Leg) → P leg → EachLeg P (update calls key (with_leg leg))
  EachLeg-join leg is = EachCall-update (λ call. All P call.legs) calls key each (with_leg leg)
      (λ call there. All-push P call.legs leg (each key call there) is)

  pub EachLeg-set_units : (units : ℕ) → EachLeg P (update calls key (with_units units))
  EachLeg-set_units units = EachCall-update (λ call. All P call.legs) calls key each
      (with_units units) (λ call there. each key call there)

  pub EachLeg-leave : (call : Call) (endpoint : List ℕ) → fin.get calls key ≡ Some call
      → EachLeg P (after_leave calls key endpoint)
  EachLeg-leave call endpoint there =
      EachCall-leave (λ call. All P call.legs) calls key each call endpoint there
      (λ other. All-filter (λ leg. not (pointwise nat_eq leg.endpoint endpoint)) P
      call.legs (each key call there))

-- if an endpoint takes part in no call, all legs are those of other endpoints
pub EachLeg-other : (calls : OpenCalls) (x : List ℕ) → IsInNoCall calls x
    → EachLeg (λ leg. leg.endpoint ≢ x) calls
EachLeg-other calls x none key call there =
    all_other call.legs (ap (λ w. leg_of (legs_in w) x) (sym there) ∙ none key) where
      all_other : (legs : List Leg) → leg_of legs x ≡ None → All (λ leg. leg.endpoint ≢ x) legs
      all_other [] h = All-nil (λ leg. leg.endpoint ≢ x)
      all_other (l ∷ legs) h = cases (all_other legs) (is_of x l) refl h where
        cases : (leg_of legs x ≡ None → All (λ leg. leg.endpoint ≢ x) legs)
            → (b : Bool) → is_of x l ≡ b
            → cond b (Some l) (leg_of legs x) ≡ None
            → All (λ leg. leg.endpoint ≢ x) (l ∷ legs)
        cases rest true is e = absurd (cc e)
        cases rest false is e = All-cons (λ leg. leg.endpoint ≢ x) l legs
            (λ same. cc (is, (texts_decide l.endpoint x).1 same)) (rest e)
