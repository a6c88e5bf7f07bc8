-- If an endpoint leaves all its calls one after another, the same is left in any order.
use Rattle.std.proofs.Common.{◌≡◌, ◌<◌, ◌≤◌, ℕ, Bool, true, false, cond, List, [], ◌∷◌, length}
use Rattle.std.proofs.Common.{get_or, refl, sym, ◌∙◌, ap, subst, Some, None, arith}
use Rattle.std.specs.Prelude.{Option, All, is_some, option_and_then, not, nat_eq, filter, ◌||◌}
use Rattle.std.specs.List.{fold, list_any}
use Rattle.std.specs.Ordering.{eq_by_cmp}
use Rattle.std.specs.Cmp.Lexicographic.{pointwise}
use Rattle.std.specs.FinMap as fin
use Rattle.std.proofs.lemmas.List.{ext_get_or}
use Rattle.std.proofs.lemmas.List.Elements.{All-filter, filter_passes}
use Rattle.keyed.specs.Maps.{Changed}
use Rattle.keyed.proofs.Decide.{same_some, some_none, test_false}
use Rattle.keyed.proofs.Maps.{by_key, key_decides, Changed-insert, Changed-remove}
use Rattle.ras_module.specs.CallKeys.{call_key_cmp}
use Rattle.ras_module.specs.declared.call_key.CallKey.{CallKey}
use Rattle.ras_module.proofs.CallKeyOrder.{call_key_cmp_total, call_key_cmp-IsAntisymmetric}
use Rattle.admission.specs.declared.call.Call.{Call}
use Rattle.admission.specs.declared.leg.Leg.{Leg}
use Rattle.admission.specs.Legs.{leg_of, without_leg}
use Rattle.admission.specs.Calls.{OpenCalls, EachCall, EachLeg, IsCall, IsInNoCall, after_leave}
use Rattle.admission.specs.Calls.{freed_by, freed_by_leave, in_use_of, legs_in}
use Rattle.admission.specs.Calls.{put_or_remove, rest_of_call, with_legs}
use Rattle.ras_module.specs.Same.{texts_decide}
use Rattle.pools.specs.declared.interface.Figures.{Figures}
use Rattle.pools.specs.Account.{opening_account}
use Rattle.registrations.specs.Registry.{Live}
use Rattle.zone_tables.specs.Tables.{Tables, with_live}
use Rattle.zone_tables.specs.Pools.{figures_at, pools_after_end}
use Rattle.zone_tables.specs.Parts.{IsBacked, Usage, usage_of, with_usage}
use Rattle.zone_tables.specs.Disengaging.{without_leg_of, without_legs_of}
use Rattle.zone_tables.specs.Leaving.{AreLeft, AreSameButLent, HaveLeft, rest_of}
use Rattle.zone_tables.proofs.ButLent.{same_after_end, same_through}
use Rattle.zone_tables.proofs.Backing.{IsBacked-is, IsBacked-leave}

-- a leg that went is gone
filter_once : {A : Type 0} (test : A → Bool) (xs : List A)
    → filter test (filter test xs) ≡ filter test xs
filter_once test [] = refl
filter_once test (x ∷ xs) = cases (test x) refl (filter_once test xs) where
  cases : (b : Bool) → test x ≡ b → filter test (filter test xs) ≡ filter test xs
      → filter test (cond b (x ∷ filter test xs) (filter test xs))
      ≡ cond b (x ∷ filter test xs) (filter test xs)
  cases true is once =
      ap (λ b. cond b (x ∷ filter test (filter test xs)) (filter test (filter test xs))) is
      ∙ ap (λ ys. x ∷ ys) once
  cases false is once = once

module _ (endpoint : List ℕ) where
  abbrev pub rest : Option Call → Option Call
  rest w = option_and_then (rest_of_call endpoint) w

  rest_once_of : (call : Call) (legs : List Leg) → without_leg call.legs endpoint ≡ legs
      → rest (with_legs legs call) ≡ with_legs legs call
  rest_once_of call [] is = refl
  rest_once_of call (leg ∷ legs) is =
      ap (λ (ls : List Leg). with_legs ls (record call { legs = leg ∷ legs }))
      (subst (λ (ls : List Leg). without_leg ls endpoint ≡ ls) is
      (filter_once (λ (leg : Leg). not (pointwise nat_eq leg.endpoint endpoint)) call.legs))

  pub rest_once : (w : Option Call) → rest (rest w) ≡ rest w
  rest_once None = refl
  rest_once (Some call) = rest_once_of call (without_leg call.legs endpoint) refl

  -- if an endpoint has no leg, all legs stay
  all_stay : (legs : List Leg) → leg_of legs endpoint ≡ None → without_leg legs endpoint ≡ legs
  all_stay [] none = refl
  all_stay (leg ∷ legs) none =
      cases (pointwise nat_eq leg.endpoint endpoint) none (all_stay legs) where
        cases : (b : Bool) → cond b (Some leg) (leg_of legs endpoint) ≡ None
            → (leg_of legs endpoint ≡ None → without_leg legs endpoint ≡ legs)
            → cond (not b) (leg ∷ without_leg legs endpoint)
            (without_leg legs endpoint) ≡ leg ∷ legs
        cases true h others = absurd (cc h)
        cases false h others = ap (λ ls. leg ∷ ls) (others h)

  with_all : (call : Call) (legs : List Leg) → call.legs ≡ legs → 1 ≤ length legs
      → with_legs legs call ≡ Some call
  with_all call [] is some = absurd (omega (arith, some))
  with_all call (leg ∷ legs) is some =
      ap (λ (ls : List Leg). Some (record call { legs = ls })) (sym is)

  stays : (w : Option Call) → ((call : Call) → w ≡ Some call → IsCall call)
      → leg_of (legs_in w) endpoint ≡ None
      → rest w ≡ w
  stays None sound none = refl
  stays (Some call) sound none =
      ap (λ (ls : List Leg). with_legs ls call) (all_stay call.legs none)
      ∙ with_all call call.legs refl (sound call refl).legs.some

  -- one call is left
  after_one : (calls : OpenCalls) (key : CallKey)
      → Changed (fin.get calls) (fin.get (after_leave calls key endpoint)) key
      (rest (fin.get calls key))
  after_one calls key = cases (rest (fin.get calls key)) where
    cases : (w : Option Call) → Changed (fin.get calls) (fin.get (put_or_remove calls key w)) key w
    cases None = Changed-remove call_key_cmp_total call_key_cmp-IsAntisymmetric calls key
    cases (Some call) =
        Changed-insert call_key_cmp_total call_key_cmp-IsAntisymmetric calls key call

  -- if one call was left, to leave all calls comes to the same
  pub rest_after : (calls : OpenCalls) (key q : CallKey)
      → rest (fin.get (after_leave calls key endpoint) q) ≡ rest (fin.get calls q)
  rest_after calls key q =
      let c = after_one calls key in
      by_key call_key_cmp_total call_key_cmp-IsAntisymmetric q key
      (rest (fin.get (after_leave calls key endpoint) q) ≡ rest (fin.get calls q))
      (λ same. ap (λ k. rest (fin.get (after_leave calls key endpoint) k)) same
      ∙ (ap rest c.here
      ∙ (rest_once (fin.get calls key) ∙ ap (λ k. rest (fin.get calls k)) (sym same))))
      (λ differ. ap rest (c.others q differ))

  -- a call that was left stays so
  still_left : (calls : OpenCalls) (key q : CallKey) → rest (fin.get calls q) ≡ fin.get calls q
      → rest (fin.get (after_leave calls key endpoint) q)
      ≡ fin.get (after_leave calls key endpoint) q
  still_left calls key q left =
      let c = after_one calls key in
      by_key call_key_cmp_total call_key_cmp-IsAntisymmetric q key
      (rest (fin.get (after_leave calls key endpoint) q)
      ≡ fin.get (after_leave calls key endpoint) q)
      (λ same. subst (λ k. rest (fin.get (after_leave calls key endpoint) k)
      ≡ fin.get (after_leave calls key endpoint) k)
      (sym same) (ap rest c.here ∙ (rest_once (fin.get calls key) ∙ sym c.here)))
      (λ differ. ap rest (c.others q differ) ∙ (left ∙ sym (c.others q differ)))

  now_left : (calls : OpenCalls) (key : CallKey)
      → rest (fin.get (after_leave calls key endpoint) key)
      ≡ fin.get (after_leave calls key endpoint) key
  now_left calls key =
      let c = after_one calls key in
      ap rest c.here ∙ (rest_once (fin.get calls key) ∙ sym c.here)

  -- if no leg is left, all calls were left
  pub all_left : (old new : OpenCalls)
      → ((q : CallKey) → rest (fin.get new q) ≡ rest (fin.get old q))
      → EachCall IsCall new → IsInNoCall new endpoint → AreLeft endpoint old new
  all_left old new same sound none q =
      sym (stays (fin.get new q) (λ call is. sound q call is) (none q)) ∙ same q

  -- the fold over the keys
  abbrev pub leave : Tables → CallKey → Tables
  leave z call = without_leg_of z call endpoint

  abbrev pub over : Tables → List CallKey → Tables
  over z keys = fold leave z keys

  over_rest : (z : Tables) (keys : List CallKey) (q : CallKey)
      → rest (fin.get (over z keys).calls q) ≡ rest (fin.get z.calls q)
  over_rest z [] q = refl
  over_rest z (key ∷ keys) q = over_rest (leave z key) keys q ∙ rest_after z.calls key q

  over_still : (z : Tables) (keys : List CallKey) (q : CallKey)
      → rest (fin.get z.calls q) ≡ fin.get z.calls q
      → rest (fin.get (over z keys).calls q) ≡ fin.get (over z keys).calls q
  over_still z [] q left = left
  over_still z (key ∷ keys) q left = over_still (leave z key) keys q (still_left z.calls key q left)

  over_left : (z : Tables) (keys : List CallKey) (q : CallKey)
      → list_any (eq_by_cmp call_key_cmp q) keys ≡ true
      → rest (fin.get (over z keys).calls q) ≡ fin.get (over z keys).calls q
  over_left z [] q among = absurd (cc among)
  over_left z (key ∷ keys) q among =
      by_key call_key_cmp_total call_key_cmp-IsAntisymmetric q key
      (rest (fin.get (over z (key ∷ keys)).calls q) ≡ fin.get (over z (key ∷ keys)).calls q)
      (λ same. over_still (leave z key) keys q
      (subst (λ k. rest (fin.get (after_leave z.calls key endpoint) k)
      ≡ fin.get (after_leave z.calls key endpoint) k)
      (sym same) (now_left z.calls key)))
      (λ differ. over_left (leave z key) keys q (later (eq_by_cmp call_key_cmp q key)
      (test_false (eq_by_cmp call_key_cmp q key)
      (key_decides call_key_cmp_total call_key_cmp-IsAntisymmetric q key) differ) among)) where
        later : (b : Bool) → b ≡ false → (b || list_any (eq_by_cmp call_key_cmp q) keys) ≡ true
            → list_any (eq_by_cmp call_key_cmp q) keys ≡ true
        later b is h =
            subst (λ (b : Bool). (b || list_any (eq_by_cmp call_key_cmp q) keys) ≡ true) is h

  -- each call is left, whether its key came or not
  pub over_all : (z : Tables) → AreLeft endpoint z.calls (without_legs_of z endpoint).calls
  over_all z q = sym (cases (fin.contains_key z.calls q) refl)
      ∙ over_rest z (fin.keys z.calls) q where
        cases : (b : Bool) → fin.contains_key z.calls q ≡ b
            → rest (fin.get (over z (fin.keys z.calls)).calls q)
            ≡ fin.get (over z (fin.keys z.calls)).calls q
        cases true is =
            over_left z (fin.keys z.calls) q (sym (fin.contains_key-keys z.calls q) ∙ is)
        cases false is = over_still z (fin.keys z.calls) q (none (fin.get z.calls q) is) where
          none : (w : Option Call) → is_some w ≡ false → rest w ≡ w
          none None h = refl
          none (Some call) h = absurd (cc h)

  pub same_after_leave : (calls : OpenCalls) (pools : List Figures) (key : CallKey)
      → AreSameButLent pools (pools_after_end pools (freed_by_leave calls key endpoint))
  same_after_leave calls pools key = same_after_end pools (freed_by_leave calls key endpoint)

  over_pools : (z : Tables) (keys : List CallKey) → AreSameButLent z.pools (over z keys).pools
  over_pools z [] = same_after_end z.pools None
  over_pools z (key ∷ keys) =
      same_through z.pools (leave z key).pools (over (leave z key) keys).pools
      (same_after_leave z.calls z.pools key) (over_pools (leave z key) keys)

  -- all calls stay backed
  backed_after : (u : Usage) (key : CallKey) → IsBacked u
      → IsBacked (with_usage u (after_leave u.calls key endpoint)
      (pools_after_end u.pools (freed_by_leave u.calls key endpoint)))
  backed_after u key b = cases (fin.get u.calls key) refl where
    cases : (w : Option Call) → fin.get u.calls key ≡ w
        → IsBacked (with_usage u (after_leave u.calls key endpoint)
        (pools_after_end u.pools (freed_by_leave u.calls key endpoint)))
    cases (Some call) there = IsBacked-leave u b key endpoint call there
    cases None absent =
        let c = after_one u.calls key in
        let same : after_leave u.calls key endpoint ≡ u.calls =
        fin.same_map call_key_cmp_total call_key_cmp-IsAntisymmetric
        (after_leave u.calls key endpoint) u.calls
        (λ q. by_key call_key_cmp_total call_key_cmp-IsAntisymmetric q key
        (fin.get (after_leave u.calls key endpoint) q ≡ fin.get u.calls q)
        (λ same. ap (fin.get (after_leave u.calls key endpoint)) same
        ∙ (c.here ∙ (ap rest absent ∙ sym (ap (fin.get u.calls) same ∙ absent))))
        (λ differ. c.others q differ)) in
        let freed : freed_by_leave u.calls key endpoint ≡ None =
        ap (option_and_then (freed_by endpoint)) absent in
        IsBacked-is u (after_leave u.calls key endpoint)
        (pools_after_end u.pools (freed_by_leave u.calls key endpoint)) u.most b same
        (ap (pools_after_end u.pools) freed) refl

  over_backed : (z : Tables) (keys : List CallKey) → IsBacked (usage_of z)
      → IsBacked (usage_of (over z keys))
  over_backed z [] b = b
  over_backed z (key ∷ keys) b = over_backed (leave z key) keys (backed_after (usage_of z) key b)

  pub over_else : (z : Tables) (keys : List CallKey)
      → over z keys ≡ record z { calls = (over z keys).calls; pools = (over z keys).pools }
  over_else z [] = refl
  over_else z (key ∷ keys) = over_else (leave z key) keys

  -- so the same is left if all calls were left in another order
  pub all_gone : (z : Tables) (new : Usage) → IsBacked (usage_of z) → IsBacked new
      → HaveLeft endpoint (usage_of z) new
      → without_legs_of z endpoint ≡ record z { calls = new.calls; pools = new.pools }
  all_gone z new old_backed backed left =
      let all = without_legs_of z endpoint in
      let all_backed = over_backed z (fin.keys z.calls) old_backed in
      let same_pools = over_pools z (fin.keys z.calls) in
      let calls : all.calls ≡ new.calls =
      fin.same_map call_key_cmp_total call_key_cmp-IsAntisymmetric all.calls new.calls
      (λ q. over_all z q ∙ sym (left.calls q)) in
      let pools : all.pools ≡ new.pools =
      ext_get_or (opening_account 0).figures all.pools new.pools
      (same_pools.each ∙ sym left.pools.each)
      (λ i below.
      let here : i < length z.pools = omega (arith, below, same_pools.each) in
      let x = same_pools.same i here in
      let y = left.pools.same i here in
      same_figures (figures_at all.pools i) (figures_at new.pools i)
      (x.limit ∙ sym y.limit) (x.refusals ∙ sym y.refusals) (x.waits ∙ sym y.waits)
      (all_backed.lent i below ∙ (ap (λ (calls : OpenCalls). in_use_of calls i) calls
      ∙ sym (backed.lent i (omega (arith, here, left.pools.each)))))) in
      over_else z (fin.keys z.calls) ∙ (λ j. record z { calls = calls j; pools = pools j }) where
        same_figures : (f g : Figures) → f.limit ≡ g.limit
            → f.refusals ≡ g.refusals → f.waits ≡ g.waits
            → f.lent ≡ g.lent → f ≡ g
        same_figures f g limit refusals waits lent j = record {
          limit = limit j;
          lent = lent j;
          refusals = refusals j;
          waits = waits j;
        }

-- what holds of each leg holds of those that are left, which are of others
rest_legs : (endpoint : List ℕ) (was call : Call) (legs : List Leg)
    → without_leg was.legs endpoint ≡ legs
    → with_legs legs was ≡ Some call → call.legs ≡ without_leg was.legs endpoint
rest_legs endpoint was call [] is rest = absurd (cc rest)
rest_legs endpoint was call (leg ∷ legs) is rest =
    ap (λ (c : Call). c.legs) (sym (same_some (record was { legs = leg ∷ legs }) call rest))
    ∙ sym is

pub legs_left : (endpoint : List ℕ) (P Q : Leg → Type 0)
    → ((leg : Leg) → (leg.endpoint ≡ endpoint → ⊥) → P leg → Q leg)
    → (old new : OpenCalls) → AreLeft endpoint old new → EachLeg P old → EachLeg Q new
legs_left endpoint P Q f old new left each key call there = cases (fin.get old key) refl where
  test : Leg → Bool
  test leg = not (pointwise nat_eq leg.endpoint endpoint)

  other : (leg : Leg) → test leg ≡ true → leg.endpoint ≡ endpoint → ⊥
  other leg passes same = differ (pointwise nat_eq leg.endpoint endpoint)
      ((texts_decide leg.endpoint endpoint).1 same) passes where
        differ : (b : Bool) → b ≡ true → not b ≡ true → ⊥
        differ true h is = absurd (cc is)
        differ false h is = absurd (cc h)

  cases : (w : Option Call) → fin.get old key ≡ w → All Q call.legs
  cases None is = some_none (sym there ∙ (left key ∙ ap (rest_of endpoint) is))
  cases (Some was) is =
      let rest : rest_of_call endpoint was ≡ Some call = sym (ap (rest_of endpoint) is)
      ∙ (sym (left key) ∙ there) in
      subst (λ (legs : List Leg). All Q legs)
      (sym (rest_legs endpoint was call (without_leg was.legs endpoint) refl rest))
      (λ k d below. f (get_or (without_leg was.legs endpoint) k d)
      (other (get_or (without_leg was.legs endpoint) k d) (filter_passes test was.legs k d below))
      (All-filter test P was.legs (each key was is) k d below))

-- an endpoint that leaves changes no setting
pub settings_stay : (z : Tables) (id : List ℕ) → (without_legs_of z id).config ≡ z.config
settings_stay z id = ap (λ (z : Tables). z.config) (over_else id z (fin.keys z.calls))

pub endpoints_stay : (z : Tables) (id : List ℕ) → (without_legs_of z id).live ≡ z.live
endpoints_stay z id = ap (λ (z : Tables). z.live) (over_else id z (fin.keys z.calls))

-- an endpoint leaves all calls, and then the registrations become these
pub left_then : (f : Live → Live) (z left : Tables) (id : List ℕ) → left ≡ without_legs_of z id
    → (live : Live) → live ≡ f left.live
    → with_live left live ≡ with_live (without_legs_of z id) (f z.live)
left_then f z left id is live live_is =
    ap (with_live left) live_is
    ∙ (ap (λ (z : Tables). with_live z (f z.live)) is
    ∙ ap (λ live. with_live (without_legs_of z id) (f live)) (endpoints_stay z id))
