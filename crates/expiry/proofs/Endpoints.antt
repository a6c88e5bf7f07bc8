-- What is due of the endpoints, and what a search through them says of it.
use Rattle.std.proofs.Common.{◌≡◌, ℕ, ◌<◌, List, length, refl, sym, ◌∙◌, ap, subst, cond, Some}
use Rattle.std.proofs.Common.{None, Bool, true, false, nat_eq, arith}
use Rattle.std.specs.Prelude.{slice_get}
use Rattle.std.specs.FinMap as fin
use Rattle.std.proofs.lemmas.Bool.Decides.{Decides-eqb}
use Rattle.std.proofs.lemmas.Cmp.{nat_list_cmp_total}
use Rattle.std.proofs.lemmas.Map.Lookups.{exact_bytes}
use Rattle.std.proofs.lemmas.Option.{slice_get_within}
use Rattle.keyed.proofs.Decide.{some_none}
use Rattle.keyed.proofs.Rows.{IsMapOf-rows, len_rows}
use Rattle.admission.specs.Calls.{OpenCalls, legs_of}
use Rattle.registrations.specs.Registry.{Live, Registry, IsConsistent, IsNumbered, identifier_of}
use Rattle.registrations.specs.declared.registration.Registration.{Registration}
use Rattle.registrations.specs.Silence.{is_to_be_asked, is_silent}
use Rattle.expiry.specs.inside.Searched.{item_of}
use Rattle.registrations.specs.declared.times.Times.{Times}
use Rattle.zone_events.specs.declared.due_item.DueItem.{DueItem}
use Rattle.zone_events.specs.declared.due_item.DueItem.TheVariants.{RegistrationOver, Interrogate}
use Rattle.zone_events.specs.declared.due_item.DueItem.TheVariants.{Silent, Retry}
use Rattle.zone_events.specs.declared.due_item.DueItem.TheVariants.{KeptOver, PoolTurn}
use Rattle.zone_tables.specs.EndpointsDue.{IsEndpointItem, IsInCall, IsLiveAnd, IsNoEndpointDue}
use Rattle.zone_tables.proofs.Ending.{the_live}

-- no registration passes if all are later
pub none_live : (test : Registration → Bool) (live : Live) (id : List ℕ)
    → ((r : Registration) → fin.get live id ≡ Some r → test r ≡ false)
    → IsLiveAnd test live id → ⊥
none_live test live id none h =
    let r = the_live test live id h in
    cc (r.2, none r.0 r.1)

module _ (now : ℕ) (times : Times) (calls : OpenCalls) where
  -- if nothing is due of an endpoint in a call, it passes neither test
  nothing_asked : (r : Registration) → item_of now times calls r ≡ None
      → IsInCall calls r.identifier → is_to_be_asked times now r ≡ true → ⊥
  nothing_asked r none in_call asked =
      cases (nat_eq (legs_of calls r.identifier) 0) refl (is_to_be_asked times now r) asked none
    where
      cases : (b : Bool) → nat_eq (legs_of calls r.identifier) 0 ≡ b
          → (a : Bool) → a ≡ true
          → cond b None (cond a (Some (Interrogate r.identifier))
          (cond (is_silent times now r) (Some (Silent r.identifier)) None)) ≡ None
          → ⊥
      cases true h a p e =
          omega (arith, in_call, (Decides-eqb (legs_of calls r.identifier) 0).0 h)
      cases false h true p e = some_none e
      cases false h false p e = cc p

  nothing_silent : (r : Registration) → item_of now times calls r ≡ None
      → IsInCall calls r.identifier → is_silent times now r ≡ true → ⊥
  nothing_silent r none in_call silent =
      cases (nat_eq (legs_of calls r.identifier) 0) refl (is_to_be_asked times now r)
      (is_silent times now r) silent none where
        cases : (b : Bool) → nat_eq (legs_of calls r.identifier) 0 ≡ b
            → (a : Bool) → (s : Bool) → s ≡ true
            → cond b None (cond a (Some (Interrogate r.identifier))
            (cond s (Some (Silent r.identifier)) None)) ≡ None
            → ⊥
        cases true h a s q e =
            omega (arith, in_call, (Decides-eqb (legs_of calls r.identifier) 0).0 h)
        cases false h true s q e = some_none e
        cases false h false true q e = some_none e
        cases false h false false q e = cc q

  -- if a search through all registrations found nothing, nothing is due of any
  pub none_due : (t : Registry) (end : ℕ) → IsNumbered t → IsConsistent t.live
      → end ≡ fin.len t.live
      → ((j : ℕ) (r : Registration) → j < end → slice_get t.order j ≡ Some r
      → item_of now times calls r ≡ None)
      → IsNoEndpointDue now times t.live calls
  none_due t end numbered sound all none = due where
    len : fin.len t.live ≡ length t.order
    len = sym (ap fin.len numbered.all)
        ∙ len_rows nat_list_cmp_total exact_bytes identifier_of (λ r. r) t.order numbered.once

    nothing : (id : List ℕ) (r : Registration) → fin.get t.live id ≡ Some r
        → item_of now times calls r ≡ None
    nothing id r there =
        let at = (IsMapOf-rows nat_list_cmp_total exact_bytes identifier_of (λ r. r) t.order
        numbered.once).stands id r (ap (λ m. fin.get m id) numbered.all ∙ there) in
        let below = slice_get_within t.order at.0 at.1 at.2.there in
        subst (λ (r : Registration). item_of now times calls r ≡ None) at.2.value_is
        (none at.0 at.1 (omega (arith, below, len, all)) at.2.there)

    in_own_call : (id : List ℕ) (r : Registration) → fin.get t.live id ≡ Some r
        → IsInCall calls id → IsInCall calls r.identifier
    in_own_call id r there in_call = subst (IsInCall calls) (sym (sound.own id r there)) in_call

    due : (item : DueItem) → IsEndpointItem now times t.live calls item → ⊥
    due (RegistrationOver id) h = h
    due (Interrogate id) h =
        let r = the_live (is_to_be_asked times now) t.live id h.1 in
        nothing_asked r.0 (nothing id r.0 r.1) (in_own_call id r.0 r.1 h.0) r.2
    due (Silent id) h =
        let r = the_live (is_silent times now) t.live id h.1 in
        nothing_silent r.0 (nothing id r.0 r.1) (in_own_call id r.0 r.1 h.0) r.2
    due (Retry born) h = h
    due (KeptOver born) h = h
    due PoolTurn h = h
