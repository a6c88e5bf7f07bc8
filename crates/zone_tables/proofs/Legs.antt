-- The endpoints of the calls' legs stay registered.
use Rattle.std.proofs.Common.{◌≡◌, ◌+◌, ℕ, List, length, get_or, refl, sym, ◌∙◌, ap, subst, Some}
use Rattle.std.proofs.Common.{None, []}
use Rattle.std.specs.Prelude.{Option, Result, Ok, Err, OnOk, OnErr, IfSome, IsSome}
use Rattle.std.specs.Option.{option_map, unwrap_or}
use Rattle.std.specs.FinMap as fin
use Rattle.std.proofs.lemmas.Cmp.{nat_list_cmp_total}
use Rattle.std.proofs.lemmas.List.{length-set}
use Rattle.std.proofs.lemmas.Map.Lookups.{exact_bytes}
use Rattle.keyed.specs.Maps.{update}
use Rattle.keyed.proofs.Maps.{by_key, Changed-insert, Changed-remove, Changed-update}
use Rattle.registrations.specs.declared.registration.Registration.{Registration}
use Rattle.registrations.specs.Registry.{Live, after_hear, after_rewrite, with_deadline}
use Rattle.admission.specs.Calls.{EachLeg, OpenCalls, freed_by_leave, legs_of}
use Rattle.admission.proofs.Soundness.{EachLeg-open, EachLeg-join, EachLeg-set_units, EachLeg-leave}
use Rattle.admission.proofs.Soundness.{EachLeg-other, IsInNoCall-zero}
use Rattle.pools.specs.declared.interface.Figures.{Figures}
use Rattle.zone_tables.specs.declared.change.EndpointChange.{EndpointChange}
use Rattle.zone_tables.specs.declared.change.EndpointChange.TheVariants.{Renewal, Rewriting}
use Rattle.zone_tables.specs.declared.change.EndpointChange.TheVariants.{Addition}
use Rattle.zone_tables.specs.declared.change.EndpointChange.TheVariants.{Removal}
use Rattle.zone_tables.specs.declared.change.CallChange.{CallChange}
use Rattle.zone_tables.specs.declared.change.CallChange.TheVariants.{Opening, Joining, Lowering}
use Rattle.zone_tables.specs.declared.change.CallChange.TheVariants.{Leaving}
use Rattle.zone_tables.specs.declared.unit_request.UnitRequest.{UnitRequest}
use Rattle.zone_tables.specs.declared.unit_request.Purpose.{Purpose}
use Rattle.zone_tables.specs.declared.unit_request.Purpose.TheVariants as purpose
use Rattle.pools.specs.declared.interface.Lend.{Lend}
use Rattle.zone_tables.specs.Tables.{heard_now, identifier_at}
use Rattle.zone_tables.specs.Pools.{figures_after_return, figures_at}
use Rattle.zone_config.specs.declared.config.ConfigParts.{ConfigParts}
use Rattle.zone_tables.specs.Parts.{AreParts, Roll, Roster, Usage, with_usage}
use Rattle.zone_tables.specs.Leaving.{IsOther}
use Rattle.zone_tables.specs.Soundness.{HaveEndpoints}
use Rattle.zone_tables.specs.Changes.{IsCallChange, IsFree, IsRegistered}
use Rattle.zone_tables.specs.Changes.{after_endpoint_change, calls_after, leg_added}
use Rattle.zone_tables.specs.Changes.{leg_with, pools_after}
use Rattle.zone_tables.specs.UnitRequests.{calls_after_answer, calls_with_grant, granted_calls}
use Rattle.zone_tables.specs.UnitRequests.{leg_of_purpose}
use Rattle.zone_tables.specs.Pools.{grant_of}
use Rattle.zone_tables.proofs.Backing.{call_with_leg, length-after_end}

-- each endpoint that was registered still is
abbrev Stays : Live → Live → Type 0
Stays old new = (id : List ℕ) → IsSome (fin.get old id) → IsSome (fin.get new id)

legs_stay : (old new : Live) (calls : OpenCalls) → HaveEndpoints old calls → Stays old new
    → HaveEndpoints new calls
legs_stay old new calls have stays key call there k d below =
    stays _ (have key call there k d below)

still_some : (w : Option Registration) (f : Registration → Registration) → IsSome w
    → IsSome (option_map f w)
still_some None f h = h
still_some (Some r) f h = refl

Stays-update : (live : Live) (id : List ℕ) (f : Registration → Registration)
    → Stays live (update live id f)
Stays-update live id f q has =
    let c = Changed-update nat_list_cmp_total exact_bytes live id f in
    by_key nat_list_cmp_total exact_bytes q id (IsSome (fin.get (update live id f) q))
    (λ same. subst (λ w. IsSome w) (sym (ap (fin.get (update live id f)) same ∙ c.here))
    (still_some (fin.get live id) f (subst (λ k. IsSome (fin.get live k)) same has)))
    (λ differ. subst (λ w. IsSome w) (sym (c.others q differ)) has)

Stays-insert : (live : Live) (id : List ℕ) (r : Registration) → Stays live (fin.insert live id r)
Stays-insert live id r q has =
    let c = Changed-insert nat_list_cmp_total exact_bytes live id r in
    by_key nat_list_cmp_total exact_bytes q id (IsSome (fin.get (fin.insert live id r) q))
    (λ same. subst (λ w. IsSome w) (sym (ap (fin.get (fin.insert live id r)) same ∙ c.here)) refl)
    (λ differ. subst (λ w. IsSome w) (sym (c.others q differ)) has)

-- an endpoint that is in no call goes
pub legs_without : (live : Live) (calls : OpenCalls) (id : List ℕ) → HaveEndpoints live calls
    → legs_of calls id ≡ 0 → HaveEndpoints (fin.remove live id) calls
legs_without live calls id have zero key call there k d below =
    let c = Changed-remove nat_list_cmp_total exact_bytes live id in
    subst (λ w. IsSome w)
    (sym (c.others _
    (EachLeg-other calls id (IsInNoCall-zero calls id zero) key call there k d below)))
    (have key call there k d below)

-- if no leg is that of the endpoint that goes, all legs stay
pub legs-remove : (live : Live) (calls : OpenCalls) (id : List ℕ) → HaveEndpoints live calls
    → EachLeg (IsOther id) calls → HaveEndpoints (fin.remove live id) calls
legs-remove live calls id have gone key call there k d below =
    let c = Changed-remove nat_list_cmp_total exact_bytes live id in
    subst (λ w. IsSome w)
    (sym (c.others (get_or call.legs k d).endpoint (gone key call there k d below)))
    (have key call there k d below)

pub legs-update : (live : Live) (calls : OpenCalls) (id : List ℕ) (f : Registration → Registration)
    → HaveEndpoints live calls → HaveEndpoints (update live id f) calls
legs-update live calls id f have =
    legs_stay live (update live id f) calls have (Stays-update live id f)

pub legs-heard : (live : Live) (calls : OpenCalls) (now : ℕ) (id : List ℕ)
    → HaveEndpoints live calls
    → HaveEndpoints (heard_now now id live) calls
legs-heard live calls now id have =
    legs_stay live (heard_now now id live) calls have (Stays-update live id (after_hear now))

pub legs-endpoint : (live : Live) (calls : OpenCalls) (now : ℕ) (who : Option (List ℕ))
    (change : EndpointChange) → HaveEndpoints live calls → IsFree live calls change
    → HaveEndpoints (after_endpoint_change now who change live) calls
legs-endpoint live calls now who (Renewal deadline) have free =
    let id = unwrap_or who [] in
    legs_stay live (update live id (with_deadline deadline)) calls have
    (Stays-update live id (with_deadline deadline))
legs-endpoint live calls now who (Rewriting e deadline) have free =
    let id = identifier_at live e.call_signal in
    legs-heard (update live id (after_rewrite e.ras e.aliases deadline)) calls now id
    (legs_stay live (update live id (after_rewrite e.ras e.aliases deadline)) calls have
    (Stays-update live id (after_rewrite e.ras e.aliases deadline)))
legs-endpoint live calls now who (Addition r) have free =
    legs_stay live (fin.insert live r.identifier r) calls have (Stays-insert live r.identifier r)
legs-endpoint live calls now who (Removal address) have free =
    legs_without live calls (identifier_at live address) have free

-- what a change of the endpoints leaves, whether it was made or not
pub legs-endpoint_result : {F : Type 0} (result : Result (Unit {0}) F) (old new : Roster)
    (calls : OpenCalls) (now : ℕ) (who : Option (List ℕ)) (change : EndpointChange)
    → HaveEndpoints old.roll.live calls → IsFree old.roll.live calls change
    → OnOk result (new.roll.live ≡ after_endpoint_change now who change old.roll.live)
    → OnErr result (new ≡ old) → HaveEndpoints new.roll.live calls
legs-endpoint_result (Ok done) old new calls now who change have free ok err =
    subst (λ live. HaveEndpoints live calls) (sym ok)
    (legs-endpoint old.roll.live calls now who change have free)
legs-endpoint_result (Err fault) old new calls now who change have free ok err =
    subst (λ (e : Roster). HaveEndpoints e.roll.live calls) (sym err) have

pub legs-calls : (live : Live) (u : Usage) (id : List ℕ) (change : CallChange)
    → HaveEndpoints live u.calls → IsCallChange u id change
    → IfSome (leg_added id change) (IsRegistered live)
    → HaveEndpoints live (calls_after id change u.calls)
legs-calls live u id (Opening key pool told) have can is =
    EachLeg-open (IsRegistered live) u.calls key have pool 0 (leg_with id told) is
legs-calls live u id (Joining key told) have can is =
    EachLeg-join (IsRegistered live) u.calls key have (leg_with id told) is
legs-calls live u id (Lowering key units pool back) have can is =
    EachLeg-set_units (IsRegistered live) u.calls key have units
legs-calls live u id (Leaving key) have can is =
    let call = call_with_leg u.calls key id can in
    EachLeg-leave (IsRegistered live) u.calls key have call.0 id call.1

pub legs-answer : (live : Live) (calls : OpenCalls) (id : List ℕ) (q : UnitRequest) (answer : Lend)
    → HaveEndpoints live calls → IfSome (leg_of_purpose id q.purpose) (IsRegistered live)
    → HaveEndpoints live (calls_after_answer id q answer calls)
legs-answer live calls id q answer have is = by_grant (grant_of q.least answer) where
  by_purpose : (units : ℕ) (p : Purpose) → IfSome (leg_of_purpose id p) (IsRegistered live)
      → HaveEndpoints live (granted_calls id q p units calls)
  by_purpose units (purpose.Opening told) is =
      EachLeg-open (IsRegistered live) calls q.call have q.pool units (leg_with id told) is
  by_purpose units (purpose.Raising had) is =
      EachLeg-set_units (IsRegistered live) calls q.call have (had + units)

  by_grant : (grant : Option ℕ) → HaveEndpoints live (calls_with_grant id q grant calls)
  by_grant None = have
  by_grant (Some units) = by_purpose units q.purpose is

-- the number of pools stays
pub length-pools_after : (id : List ℕ) (change : CallChange) (calls : OpenCalls)
    (pools : List Figures) → length (pools_after id change calls pools) ≡ length pools
length-pools_after id (Opening key pool told) calls pools = refl
length-pools_after id (Joining key told) calls pools = refl
length-pools_after id (Lowering key units pool back) calls pools =
    length-set pools pool (figures_after_return (figures_at pools pool) back)
length-pools_after id (Leaving key) calls pools =
    length-after_end pools (freed_by_leave calls key id)

-- the parts of a zone fit together if its endpoints change and each leg's endpoint is registered
pub AreParts-live : (config : ConfigParts) (old new : Roll) (u : Usage) → AreParts config old u
    → new.most ≡ old.most → (live : Live) → new.live ≡ live → HaveEndpoints live u.calls
    → AreParts config new u
AreParts-live config old new u parts most live is legs = record {
  endpoints = most ∙ parts.endpoints;
  calls = parts.calls;
  limit = parts.limit;
  call_limit = parts.call_limit;
  pools = parts.pools;
  legs = subst (λ live. HaveEndpoints live u.calls) (sym is) legs;
}

-- the parts of a zone after a change of its calls, whether it was made or not
module _ (config : ConfigParts) (roll : Roll) (old : Usage) (parts : AreParts config roll old) where
  -- the limits of the calls are those of the settings
  pub usage_is : old ≡ record {
    calls = old.calls;
    pools = old.pools;
    most = config.calls;
    limit = config.limit;
    call_limit = config.call_limit;
  }
  usage_is = λ i. record {
    calls = old.calls;
    pools = old.pools;
    most = parts.calls i;
    limit = parts.limit i;
    call_limit = parts.call_limit i;
  }

  pub roll_is : record { live = roll.live; most = config.endpoints } ≡ roll
  roll_is = λ i. record { live = roll.live; most = sym parts.endpoints i }

  pub AreParts-calls : (calls : OpenCalls) (pools : List Figures) → length pools ≡ length old.pools
      → HaveEndpoints roll.live calls → AreParts config roll (with_usage old calls pools)
  AreParts-calls calls pools as_many legs = record {
    endpoints = parts.endpoints;
    calls = parts.calls;
    limit = parts.limit;
    call_limit = parts.call_limit;
    pools = as_many ∙ parts.pools;
    legs = legs;
  }

  pub AreParts-change : {F : Type 0} (result : Result (Unit {0}) F)
      (new : Usage) (id : List ℕ) (change : CallChange)
      → IsCallChange old id change → IfSome (leg_added id change) (IsRegistered roll.live)
      → OnOk result (new ≡ with_usage old (calls_after id change old.calls)
      (pools_after id change old.calls old.pools))
      → OnErr result (new ≡ old) → AreParts config roll new
  AreParts-change (Ok done) new id change can is ok err =
      subst (AreParts config roll) (sym ok)
      (AreParts-calls (calls_after id change old.calls) (pools_after id change old.calls old.pools)
      (length-pools_after id change old.calls old.pools)
      (legs-calls roll.live old id change parts.legs can is))
  AreParts-change (Err fault) new id change can is ok err =
      subst (AreParts config roll) (sym err) parts
