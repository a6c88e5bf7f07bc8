-- How many legs each endpoint has, after a change of one endpoint's registration or legs.
use Rattle.std.proofs.Common.{◌≡◌, ◌≢◌, ◌≤◌, ◌+◌, ◌-◌, ℕ, List, [], ◌∷◌, Some, None, true, refl}
use Rattle.std.proofs.Common.{sym}
use Rattle.std.proofs.Common.{◌∙◌, ap, subst, arith, suc, cond}
use Rattle.std.specs.Prelude.{All, Err, IfSome, IsSome, Ok, OnErr, OnOk, Option, Result, nat_eq}
use Rattle.std.specs.Prelude.{if◌then◌else◌}
use Rattle.std.specs.Option.{option_map, unwrap_or}
use Rattle.std.specs.Cmp.Lexicographic.{pointwise}
use Rattle.std.specs.FinMap as fin
use Rattle.std.proofs.lemmas.Cmp.{nat_list_cmp_total}
use Rattle.std.proofs.lemmas.Map.Lookups.{exact_bytes}
use Rattle.keyed.specs.Maps.{update}
use Rattle.keyed.proofs.Decide.{some_none, test_false}
use Rattle.keyed.proofs.Maps.{by_key, Changed-insert, Changed-remove, Changed-update}
use Rattle.ras_module.specs.Same.{texts_decide}
use Rattle.ras_module.specs.declared.call_key.CallKey.{CallKey}
use Rattle.admission.specs.declared.call.Call.{Call}
use Rattle.admission.specs.declared.leg.Leg.{Leg}
use Rattle.admission.specs.Calls.{EachLeg, OpenCalls, after_leave, has_leg, leg_at, legs_in}
use Rattle.admission.specs.Calls.{legs_of}
use Rattle.admission.specs.Legs.{leg_of}
use Rattle.admission.proofs.Soundness.{one_if_same}
use Rattle.admission.proofs.Soundness.{legs_of-open, legs_of-join, legs_of-set_units, legs_of-leave}
use Rattle.admission.proofs.Soundness.{legs_of-few, legs_of-none}
use Rattle.registrations.specs.declared.table.TheConstants.Registrations as rows
use Rattle.registrations.specs.Registry.{LegCounts, Live, after_hear, after_rewrite, with_deadline}
use Rattle.registrations.specs.declared.registration.Registration.{Registration}
use Rattle.zone_tables.specs.declared.change.EndpointChange.{EndpointChange}
use Rattle.zone_tables.specs.declared.change.EndpointChange.TheVariants.{Renewal, Rewriting}
use Rattle.zone_tables.specs.declared.change.EndpointChange.TheVariants.{Addition, Removal}
use Rattle.zone_tables.specs.declared.change.CallChange.{CallChange}
use Rattle.zone_tables.specs.declared.change.CallChange.TheVariants.{Opening, Joining, Lowering}
use Rattle.zone_tables.specs.declared.change.CallChange.TheVariants.{Leaving}
use Rattle.pools.specs.declared.interface.Lend.{Lend}
use Rattle.zone_tables.specs.declared.unit_request.UnitRequest.{UnitRequest}
use Rattle.zone_tables.specs.declared.unit_request.Purpose.{Purpose}
use Rattle.zone_tables.specs.declared.unit_request.Purpose.TheVariants as purpose
use Rattle.zone_tables.specs.UnitRequests.{IsPurpose, calls_after_answer, calls_with_grant}
use Rattle.zone_tables.specs.UnitRequests.{granted_calls, leg_of_purpose}
use Rattle.zone_tables.specs.Pools.{grant_of}
use Rattle.zone_tables.specs.Changes.{IsCallChange, IsEndpointChange, IsRegistered}
use Rattle.zone_tables.specs.Changes.{after_endpoint_change, calls_after, leg_added}
use Rattle.zone_tables.specs.Tables.{identifier_at}
use Rattle.zone_tables.specs.Changes.{leg_with}
use Rattle.zone_tables.specs.Leaving.{IsOther}
use Rattle.zone_tables.specs.Parts.{IsSoundUsage, Roll, Roster, Usage}
use Rattle.zone_tables.specs.Soundness.{HaveEndpoints}
use Rattle.zone_tables.specs.inside.Counted.{AreCounted, IsCounted, IsMove, legs_after_change}
use Rattle.zone_tables.specs.inside.Counted.{legs_after_move, move_of, move_of_answer}
use Rattle.zone_tables.specs.inside.Counted.{move_of_purpose, move_with_grant}

-- a leg counts only for its own endpoint
one_if_other : (a b : List ℕ) → a ≢ b → one_if_same a b ≡ 0
one_if_other a b differ =
    ap (λ b. if b then 1 else 0) (test_false (pointwise nat_eq a b) (texts_decide a b) differ)

-- the leg that stands in a call is one of that call
has_its_leg : (calls : OpenCalls) (key : CallKey) (endpoint : List ℕ)
    → IsSome (leg_at calls key endpoint)
    → (call : Call) × (fin.get calls key ≡ Some call) × (has_leg endpoint call ≡ true)
has_its_leg calls key endpoint has = cases (fin.get calls key) refl has where
  cases : (w : Option Call) → fin.get calls key ≡ w → IsSome (leg_of (legs_in w) endpoint)
      → (call : Call) × (fin.get calls key ≡ Some call) × (has_leg endpoint call ≡ true)
  cases None is has = absurd (cc has)
  cases (Some call) is has = (call, is, has)

-- an endpoint that doesn't leave has the same number of legs as before
pub legs_after_leave : (calls : OpenCalls) (key : CallKey) (endpoint : List ℕ)
    → IsSome (leg_at calls key endpoint) → (q : List ℕ) → endpoint ≢ q
    → legs_of (after_leave calls key endpoint) q ≡ legs_of calls q
legs_after_leave calls key endpoint has q differ =
    let call = has_its_leg calls key endpoint has in
    omega (
      arith,
      legs_of-leave calls key q call.0 endpoint call.1 call.2,
      one_if_other endpoint q differ,
    )

one_if_this : (a : List ℕ) → one_if_same a a ≡ 1
one_if_this a = ap (λ b. if b then 1 else 0) ((texts_decide a a).1 refl)

-- an endpoint that leaves has one leg fewer
pub one_fewer : (endpoint : List ℕ) (calls : OpenCalls) (key : CallKey)
    → IsSome (leg_at calls key endpoint)
    → legs_of (after_leave calls key endpoint) endpoint + 1 ≡ legs_of calls endpoint
one_fewer endpoint calls key has =
    let call = has_its_leg calls key endpoint has in
    omega (
      arith,
      legs_of-leave calls key endpoint call.0 endpoint call.1 call.2,
      one_if_this endpoint,
    )

-- a call in which an endpoint has no leg has none of its legs
no_leg_of : (legs : List Leg) (id : List ℕ) → All (IsOther id) legs → leg_of legs id ≡ None
no_leg_of [] id others = refl
no_leg_of (leg ∷ legs) id others =
    ap (λ b. cond b (Some leg) (leg_of legs id)) (test_false (pointwise nat_eq leg.endpoint id)
    (texts_decide leg.endpoint id) (others 0 leg (omega arith)))
    ∙ no_leg_of legs id (λ k d below. others (suc k) d (omega (arith, below)))

-- an endpoint without a leg
pub no_legs_left : (calls : OpenCalls) (id : List ℕ) → EachLeg (IsOther id) calls
    → legs_of calls id ≡ 0
no_legs_left calls id others = legs_of-none calls id (λ key. in_call key (fin.get calls key) refl)
  where
    in_call : (key : CallKey) (w : Option Call) → fin.get calls key ≡ w
        → leg_of (legs_in w) id ≡ None
    in_call key None is = refl
    in_call key (Some call) is = no_leg_of call.legs id (others key call is)

-- who isn't registered has no leg
pub unregistered : (live : Live) (calls : OpenCalls) (id : List ℕ) → HaveEndpoints live calls
    → fin.get live id ≡ None → legs_of calls id ≡ 0
unregistered live calls id have none = no_legs_left calls id
    (λ key call there k d below is. some_leg (fin.get live id)
    (subst (λ q. IsSome (fin.get live q)) is (have key call there k d below)) none) where
      some_leg : (w : Option Registration) → IsSome w → w ≡ None → ⊥
      some_leg None h none = cc h
      some_leg (Some r) h none = some_none none

-- who has a leg is registered
pub is_registered : (live : Live) (calls : OpenCalls) (id : List ℕ) → HaveEndpoints live calls
    → 1 ≤ legs_of calls id → IsSome (fin.get live id)
is_registered live calls id have some = cases (fin.get live id) refl where
  cases : (w : Option Registration) → fin.get live id ≡ w → IsSome w
  cases None none = absurd (omega (arith, some, unregistered live calls id have none))
  cases (Some r) there = refl

module _ (live : Live) (calls : OpenCalls) (legs : LegCounts)
    (counted : AreCounted live calls legs) where
  -- a registration is changed
  pub counted_update : (id : List ℕ) (f : Registration → Registration)
      → AreCounted (update live id f) calls legs
  counted_update id f q =
      let c = Changed-update nat_list_cmp_total exact_bytes live id f in
      counted q ∙ by_key nat_list_cmp_total exact_bytes q id
      (option_map (λ r. legs_of calls q) (fin.get live q)
      ≡ option_map (λ r. legs_of calls q) (fin.get (update live id f) q))
      (λ same. there (fin.get live q) (legs_of calls q)
      ∙ ap (option_map (λ r. legs_of calls q))
      (ap (λ k. option_map f (fin.get live k)) same
      ∙ (sym c.here ∙ sym (ap (fin.get (update live id f)) same))))
      (λ differ. ap (option_map (λ r. legs_of calls q)) (sym (c.others q differ))) where
        there : (w : Option Registration) (n : ℕ)
            → option_map (λ r. n) w ≡ option_map (λ r. n) (option_map f w)
        there None n = refl
        there (Some r) n = refl

  pub counted_insert : (id : List ℕ) (r : Registration) → legs_of calls id ≡ 0
      → AreCounted (fin.insert live id r) calls (fin.insert legs id 0)
  counted_insert id r none q =
      let c = Changed-insert nat_list_cmp_total exact_bytes live id r in
      let d = Changed-insert nat_list_cmp_total exact_bytes legs id 0 in
      by_key nat_list_cmp_total exact_bytes q id
      (IsCounted (fin.insert live id r) calls (fin.insert legs id 0) q)
      (λ same. subst (λ k. IsCounted (fin.insert live id r) calls (fin.insert legs id 0) k)
      (sym same) (d.here ∙ (ap (λ (n : ℕ). Some n) (sym none)
      ∙ ap (option_map (λ r. legs_of calls id)) (sym c.here))))
      (λ differ. d.others q differ ∙ (counted q
      ∙ ap (option_map (λ r. legs_of calls q)) (sym (c.others q differ))))

  pub counted_remove : (id : List ℕ) → AreCounted (fin.remove live id) calls (fin.remove legs id)
  counted_remove id q =
      let c = Changed-remove nat_list_cmp_total exact_bytes live id in
      let d = Changed-remove nat_list_cmp_total exact_bytes legs id in
      by_key nat_list_cmp_total exact_bytes q id
      (IsCounted (fin.remove live id) calls (fin.remove legs id) q)
      (λ same. subst (λ k. IsCounted (fin.remove live id) calls (fin.remove legs id) k)
      (sym same) (d.here ∙ ap (option_map (λ r. legs_of calls id)) (sym c.here)))
      (λ differ. d.others q differ ∙ (counted q
      ∙ ap (option_map (λ r. legs_of calls q)) (sym (c.others q differ))))

  -- the calls are changed, and the number of legs of one endpoint with them
  pub counted_moved : (after : OpenCalls) (id : List ℕ) (f : ℕ → ℕ)
      → legs_of after id ≡ f (legs_of calls id)
      → ((q : List ℕ) → q ≢ id → legs_of after q ≡ legs_of calls q)
      → AreCounted live after (update legs id f)
  counted_moved after id f one others q =
      let d = Changed-update nat_list_cmp_total exact_bytes legs id f in
      by_key nat_list_cmp_total exact_bytes q id (IsCounted live after (update legs id f) q)
      (λ same. subst (λ k. IsCounted live after (update legs id f) k) (sym same)
      (d.here ∙ (ap (option_map f) (counted id) ∙ (mapped (fin.get live id)
      ∙ ap (λ n. option_map (λ (r : Registration). n) (fin.get live id)) (sym one)))))
      (λ differ. d.others q differ ∙ (counted q
      ∙ ap (λ n. option_map (λ (r : Registration). n) (fin.get live q))
      (sym (others q differ)))) where
        mapped : (w : Option Registration) → option_map f (option_map (λ r. legs_of calls id) w)
            ≡ option_map (λ r. f (legs_of calls id)) w
        mapped None = refl
        mapped (Some r) = refl

  counted_same : (after : OpenCalls) → ((q : List ℕ) → legs_of after q ≡ legs_of calls q)
      → AreCounted live after legs
  counted_same after same q =
      counted q ∙ ap (λ n. option_map (λ (r : Registration). n) (fin.get live q)) (sym (same q))

  -- an endpoint comes or goes
  comes : (after : OpenCalls) (id : List ℕ)
      → ((q : List ℕ) → legs_of after q ≡ legs_of calls q + one_if_same id q)
      → AreCounted live after (update legs id (λ n. n + 1))
  comes after id more = counted_moved after id (λ n. n + 1)
      (omega (arith, more id, one_if_this id))
      (λ q differ. omega (arith, more q, one_if_other id q (λ is. differ (sym is))))

  goes : (after : OpenCalls) (id : List ℕ)
      → ((q : List ℕ) → legs_of after q + one_if_same id q ≡ legs_of calls q)
      → AreCounted live after (update legs id (λ n. n - 1))
  goes after id fewer = counted_moved after id (λ n. n - 1)
      (omega (arith, fewer id, one_if_this id))
      (λ q differ. omega (arith, fewer q, one_if_other id q (λ is. differ (sym is))))

  -- the number of legs of an endpoint has this property if it has it over the calls
  count_is : (id : List ℕ) (P : ℕ → Type 0) → P (legs_of calls id) → IfSome (fin.get legs id) P
  count_is id P p = subst (λ w. IfSome w P) (sym (counted id)) (cases (fin.get live id)) where
    cases : (w : Option Registration) → IfSome (option_map (λ r. legs_of calls id) w) P
    cases None = tt
    cases (Some r) = p

-- nobody is registered
pub counted_empty : (calls : OpenCalls) → AreCounted fin.empty calls fin.empty
counted_empty calls id = fin.get-empty _ id
    ∙ sym (ap (option_map (λ (r : Registration). legs_of calls id)) (fin.get-empty _ id))

pub counted_so : (live new : Live) (calls after : OpenCalls) (legs next : LegCounts)
    → AreCounted live calls legs → new ≡ live → after ≡ calls → next ≡ legs
    → AreCounted new after next
counted_so live new calls after legs next counted same those equal q =
    ap (λ (m : LegCounts). fin.get m q) equal ∙ (counted q
    ∙ (λ i. option_map (λ (r : Registration). legs_of (sym those i) q) (fin.get (sym same i) q)))

-- the number of legs that is read, or 0 if the endpoint isn't registered
pub count_or_none : (live : Live) (calls : OpenCalls) (legs : LegCounts)
    → AreCounted live calls legs → HaveEndpoints live calls → (id : List ℕ)
    → unwrap_or (fin.get legs id) 0 ≡ legs_of calls id
count_or_none live calls legs counted have id =
    ap (λ w. unwrap_or w 0) (counted id) ∙ cases (fin.get live id) refl where
      cases : (w : Option Registration) → fin.get live id ≡ w
          → unwrap_or (option_map (λ r. legs_of calls id) w) 0 ≡ legs_of calls id
      cases None none = sym (unregistered live calls id have none)
      cases (Some r) there = refl

-- a change of the calls moves the legs that it names
module _ (live : Live) (u : Usage) (legs : LegCounts) (counted : AreCounted live u.calls legs) where
  pub counted_change : (id : List ℕ) (change : CallChange) → IsCallChange u id change
      → AreCounted live (calls_after id change u.calls) (legs_after_move id (move_of change) legs)
  counted_change id (Opening key pool told) can = comes live u.calls legs counted _ id
      (λ q. legs_of-open u.calls key q pool 0 (leg_with id told) can.absent)
  counted_change id (Joining key told) can = comes live u.calls legs counted _ id
      (λ q. legs_of-join u.calls key q can.call (leg_with id told) can.there can.other)
  counted_change id (Lowering key units pool back) can = counted_same live u.calls legs counted _
      (λ q. legs_of-set_units u.calls key q can.call units can.there)
  counted_change id (Leaving key) can =
      let call = has_its_leg u.calls key id can in
      goes live u.calls legs counted _ id
      (λ q. legs_of-leave u.calls key q call.0 id call.1 call.2)

  few_legs : IsSoundUsage u → (id : List ℕ) → legs_of u.calls id ≤ rows.MOST_LEGS
  few_legs sound id = omega (arith, legs_of-few u.calls id, sound.few, sound.most)

  pub IsMove-change : IsSoundUsage u → HaveEndpoints live u.calls → (id : List ℕ)
      (change : CallChange) → IsCallChange u id change
      → IfSome (leg_added id change) (IsRegistered live) → IsMove live legs id (move_of change)
  IsMove-change sound have id (Opening key pool told) can there = (
    there,
    count_is live u.calls legs counted id (λ n. n ≤ rows.MOST_LEGS) (few_legs sound id),
  )
  IsMove-change sound have id (Joining key told) can there = (
    there,
    count_is live u.calls legs counted id (λ n. n ≤ rows.MOST_LEGS) (few_legs sound id),
  )
  IsMove-change sound have id (Lowering key units pool back) can there = tt
  IsMove-change sound have id (Leaving key) can there =
      let call = has_its_leg u.calls key id can in
      let some : 1 ≤ legs_of u.calls id = omega (
        arith,
        legs_of-leave u.calls key id call.0 id call.1 call.2,
        one_if_this id,
      ) in (
        is_registered live u.calls id have some,
        count_is live u.calls legs counted id (λ n. 1 ≤ n) some,
      )

  -- a pool's answer moves the leg with which a call opens
  pub counted_answer : (id : List ℕ) (q : UnitRequest) (answer : Lend)
      → IsPurpose u q q.purpose
      → AreCounted live (calls_after_answer id q answer u.calls)
      (legs_after_move id (move_of_answer q answer) legs)
  counted_answer id q answer can = by_grant (grant_of q.least answer) where
    by_purpose : (units : ℕ) (p : Purpose) → IsPurpose u q p
        → AreCounted live (granted_calls id q p units u.calls)
        (legs_after_move id (move_of_purpose p) legs)
    by_purpose units (purpose.Opening told) can =
        comes live u.calls legs counted _ id
        (λ x. legs_of-open u.calls q.call x q.pool units (leg_with id told) can.0.absent)
    by_purpose units (purpose.Raising had) can = counted_same live u.calls legs counted _
        (λ x. legs_of-set_units u.calls q.call x can.call (had + units) can.there)

    by_grant : (grant : Option ℕ) → AreCounted live (calls_with_grant id q grant u.calls)
        (legs_after_move id (move_with_grant q.purpose grant) legs)
    by_grant None = counted
    by_grant (Some units) = by_purpose units q.purpose can

  pub IsMove-answer : IsSoundUsage u → (id : List ℕ) (q : UnitRequest) (answer : Lend)
      → IfSome (leg_of_purpose id q.purpose) (IsRegistered live)
      → IsMove live legs id (move_of_answer q answer)
  IsMove-answer sound id q answer there = by_grant (grant_of q.least answer) where
    by_purpose : (p : Purpose) → IfSome (leg_of_purpose id p) (IsRegistered live)
        → IsMove live legs id (move_of_purpose p)
    by_purpose (purpose.Opening told) there = (
      there,
      count_is live u.calls legs counted id (λ n. n ≤ rows.MOST_LEGS) (few_legs sound id),
    )
    by_purpose (purpose.Raising had) there = tt

    by_grant : (grant : Option ℕ) → IsMove live legs id (move_with_grant q.purpose grant)
    by_grant None = tt
    by_grant (Some units) = by_purpose q.purpose there

-- a change of the registrations
pub counted_endpoint : (roll : Roll) (calls : OpenCalls) (legs : LegCounts) (now : ℕ)
    (who : Option (List ℕ)) (change : EndpointChange) → AreCounted roll.live calls legs
    → HaveEndpoints roll.live calls → IsEndpointChange roll who change
    → AreCounted (after_endpoint_change now who change roll.live) calls
    (legs_after_change roll.live change legs)
counted_endpoint roll calls legs now who (Renewal deadline) counted have can =
    counted_update roll.live calls legs counted (unwrap_or who []) (with_deadline deadline)
counted_endpoint roll calls legs now who (Rewriting e deadline) counted have can =
    let id = identifier_at roll.live e.call_signal in
    let written = after_rewrite e.ras e.aliases deadline in
    counted_update (update roll.live id written) calls legs
    (counted_update roll.live calls legs counted id written) id (after_hear now)
counted_endpoint roll calls legs now who (Addition r) counted have can =
    counted_insert roll.live calls legs counted r.identifier r
    (unregistered roll.live calls r.identifier have can.identifier)
counted_endpoint roll calls legs now who (Removal address) counted have can =
    counted_remove roll.live calls legs counted (identifier_at roll.live address)

-- the same, whether it was made or not
pub counted_result : {F : Type 0} (result : Result (Unit {0}) F) (old new : Roster)
    (calls : OpenCalls) (now : ℕ) (who : Option (List ℕ)) (change : EndpointChange)
    → AreCounted old.roll.live calls old.legs → HaveEndpoints old.roll.live calls
    → IsEndpointChange old.roll who change
    → OnOk result (new.roll.live ≡ after_endpoint_change now who change old.roll.live)
    → OnOk result (new.legs ≡ legs_after_change old.roll.live change old.legs)
    → OnErr result (new ≡ old)
    → AreCounted new.roll.live calls new.legs
counted_result (Ok done) old new calls now who change counted have can live legs err =
    subst (λ (l : Live). AreCounted l calls new.legs) (sym live)
    (subst (λ (n : LegCounts).
    AreCounted (after_endpoint_change now who change old.roll.live) calls n)
    (sym legs) (counted_endpoint old.roll calls old.legs now who change counted have can))
counted_result (Err fault) old new calls now who change counted have can live legs err =
    subst (λ (e : Roster). AreCounted e.roll.live calls e.legs) (sym err) counted
