-- Something is due of an endpoint in a call if and only if its silence has ended.
use Rattle.std.proofs.Common.{◌≡◌, ◌<◌, ◌≤◌, ◌+◌, ◌^◌, ℕ, Bool, true, false, not, List, refl, sym}
use Rattle.std.proofs.Common.{◌∙◌, ap, subst, cond, Some, None, arith, nat_eq, leb, suc, zero, []}
use Rattle.std.proofs.Common.{◌∷◌, get_or, length}
use Rattle.std.specs.List.{find}
use Rattle.std.specs.Prelude.{◌&&◌, Option, IsTrue, MatchOption}
use Rattle.std.specs.Option.{IsSomeAnd, option_and_then, option_map}
use Rattle.std.specs.FinMap as fin
use Rattle.std.proofs.lemmas.Bool.{leb-true}
use Rattle.std.proofs.lemmas.Bool.Decides.{Decides-eqb, nat_tests}
use Rattle.keyed.proofs.Decide.{by_place, some_none, test_false}
use Rattle.admission.specs.Calls.{OpenCalls, legs_of}
use Rattle.registrations.specs.declared.times.Times.{Times}
use Rattle.registrations.specs.Registry.{LegCounts, Live}
use Rattle.registrations.specs.declared.registration.Registration.{Registration}
use Rattle.registrations.specs.Silence.{HasEnded, end_at, end_in_call, end_of}
use Rattle.registrations.specs.Silence.{is_silent, is_to_be_asked}
use Rattle.zone_config.proofs.RangesKept.{keys_inside, passes}
use Rattle.zone_config.specs.Keys.{all_keys}
use Rattle.zone_config.specs.Ranges.{is_outside, range_fault}
use Rattle.zone_config.specs.declared.key.Key.{Key}
use Rattle.zone_config.specs.declared.key.Key.TheVariants.{Limit}
use Rattle.zone_config.specs.declared.config.ConfigParts.{ConfigParts}
use Rattle.zone_events.specs.declared.due_item.DueItem.{DueItem}
use Rattle.zone_events.specs.declared.due_item.DueItem.TheVariants.{RegistrationOver, Interrogate}
use Rattle.zone_events.specs.declared.due_item.DueItem.TheVariants.{Silent, Retry}
use Rattle.zone_events.specs.declared.due_item.DueItem.TheVariants.{KeptOver, PoolTurn}
use Rattle.zone_tables.specs.EndpointsDue.{IsEndpointItem, IsInCall, IsLiveAnd, IsNoEndpointDue}
use Rattle.zone_tables.specs.EndpointsDue.{item_in_call}
use Rattle.zone_tables.specs.inside.Counted.{AreCounted}

-- the registration that passes a test
pub the_live : (test : Registration → Bool) (live : Live) (id : List ℕ) → IsLiveAnd test live id
    → (r : Registration) × (fin.get live id ≡ Some r) × (test r ≡ true)
the_live test live id h = cases (fin.get live id) refl h where
  cases : (w : Option Registration) → fin.get live id ≡ w → IsSomeAnd w (λ r. IsTrue (test r))
      → (r : Registration) × (fin.get live id ≡ Some r) × (test r ≡ true)
  cases None is h = absurd h
  cases (Some r) is h = (r, is, h)

-- if no key of a list passes, the one at this place doesn't
none_passes : (p : Key → Bool) (keys : List Key) (i : ℕ) → find p keys ≡ None → i < length keys
    → p (get_or keys i Limit) ≡ false
none_passes p [] i none below = absurd (omega (arith, below))
none_passes p (key ∷ keys) zero none below = (passes (p key) key (find p keys) none).0
none_passes p (key ∷ keys) (suc i) none below =
    none_passes p keys i (passes (p key) key (find p keys) none).1 (omega (arith, below))

-- an endpoint is asked once at least
pub some_asks : (parts : ConfigParts) → range_fault parts ≡ None → 1 ≤ parts.asks
some_asks parts e = cases (leb 1 parts.asks) refl
    (none_passes (λ key. is_outside parts key) all_keys 10 (keys_inside parts e)
    (omega arith)) where
      cases : (b : Bool) → leb 1 parts.asks ≡ b
          → not (leb 1 parts.asks && leb parts.asks 16) ≡ false → 1 ≤ parts.asks
      cases true is h = leb-true 1 parts.asks is
      cases false is h = absurd (cc (sym h ∙ ap (λ b. not (b && leb parts.asks 16)) is))

module _ (times : Times) (some : 1 ≤ times.asks) (now : ℕ) (r : Registration) where
  unheard_end : r.tries ≡ 0 → r.heard + times.silence < 2 ^ 64
      → end_in_call times r ≡ Some (r.heard + times.silence)
  unheard_end none fits = grind (arith, nat_tests)

  unanswered_end : 1 ≤ r.tries → r.tries ≤ times.asks → r.asked + times.ask_wait < 2 ^ 64
      → end_in_call times r ≡ Some (r.asked + times.ask_wait)
  unanswered_end one few fits = grind (arith, nat_tests)

  asked_unheard : is_to_be_asked times now r ≡ true → r.tries ≡ 0 → r.heard + times.silence ≤ now
  asked_unheard h none = grind (arith, nat_tests)

  asked_again : is_to_be_asked times now r ≡ true → 1 ≤ r.tries
      → (r.tries < times.asks) × (r.asked + times.ask_wait ≤ now)
  asked_again h one = (grind (arith, nat_tests), grind (arith, nat_tests))

  silent_at_last : is_silent times now r ≡ true
      → (r.tries ≡ times.asks) × (r.asked + times.ask_wait ≤ now)
  silent_at_last h = (grind (arith, nat_tests), grind (arith, nat_tests))

  ended_due : (m : ℕ) → end_in_call times r ≡ Some m → m ≤ now
      → is_to_be_asked times now r ≡ false → is_silent times now r ≡ false → ⊥
  ended_due m is below asked silent = grind (arith, nat_tests)

module _ (times : Times) (some : 1 ≤ times.asks) (now : ℕ) (fits : now < 2 ^ 64) (live : Live)
    (calls : OpenCalls) (legs : LegCounts) (counted : AreCounted live calls legs) where
  -- when the silence of a registered endpoint ends
  end_there : (id : List ℕ) (r : Registration) → fin.get live id ≡ Some r
      → end_at times live legs id ≡ end_of times (legs_of calls id) r
  end_there id r there =
      ap (option_and_then (λ x. option_and_then (λ n. end_of times n x) (fin.get legs id))) there
      ∙ ap (option_and_then (λ n. end_of times n r))
      (counted id ∙ ap (option_map (λ (x : Registration). legs_of calls id)) there)

  -- and if it takes part in a call
  end_in_calls : (id : List ℕ) (r : Registration) → fin.get live id ≡ Some r → IsInCall calls id
      → end_at times live legs id ≡ end_in_call times r
  end_in_calls id r there in_call =
      let some_leg = test_false (nat_eq (legs_of calls id) 0) (Decides-eqb (legs_of calls id) 0)
      (λ none. absurd (omega (arith, none, in_call))) in
      end_there id r there ∙ ap (λ b. cond b None (end_in_call times r)) some_leg

  asked_has_end : (id : List ℕ) → IsLiveAnd (is_to_be_asked times now) live id → IsInCall calls id
      → (m : ℕ) × (end_at times live legs id ≡ Some m) × (m ≤ now)
  asked_has_end id h in_call =
      let r = the_live (is_to_be_asked times now) live id h in
      let there = end_in_calls id r.0 r.1 in_call in
      by_place r.0.tries 0 ((m : ℕ) × (end_at times live legs id ≡ Some m) × (m ≤ now))
      (λ none. (
        r.0.heard + times.silence,
        there ∙ unheard_end times some now r.0 none
            (omega (arith, fits, asked_unheard times some now r.0 r.2 none)),
        asked_unheard times some now r.0 r.2 none,
      ))
      (λ differ.
      (let again = asked_again times some now r.0 r.2 (omega (arith, differ)) in (
        r.0.asked + times.ask_wait,
        there ∙ unanswered_end times some now r.0
            (omega (arith, differ)) (omega (arith, again.0)) (omega (arith, fits, again.1)),
        again.1,
      )))

  silent_has_end : (id : List ℕ) → IsLiveAnd (is_silent times now) live id → IsInCall calls id
      → (m : ℕ) × (end_at times live legs id ≡ Some m) × (m ≤ now)
  silent_has_end id h in_call =
      let r = the_live (is_silent times now) live id h in
      let last = silent_at_last times some now r.0 r.2 in (
        r.0.asked + times.ask_wait,
        end_in_calls id r.0 r.1 in_call
            ∙ unanswered_end times some now r.0
            (omega (arith, some, last.0)) (omega (arith, last.0)) (omega (arith, fits, last.1)),
        last.1,
      )

  has_ended : (id : List ℕ) (m : ℕ) → end_at times live legs id ≡ Some m → m ≤ now
      → HasEnded now times live legs id
  has_ended id m is below = subst (λ w. IsSomeAnd w (λ moment. moment ≤ now)) (sym is) below

  -- if no silence has ended, nothing is due
  pub nothing_ended : ((id : List ℕ) → HasEnded now times live legs id → ⊥)
      → IsNoEndpointDue now times live calls
  nothing_ended none = due where
    due : (item : DueItem) → IsEndpointItem now times live calls item → ⊥
    due (RegistrationOver id) h = h
    due (Interrogate id) h =
        let e = asked_has_end id h.1 h.0 in
        none id (has_ended id e.0 e.1 e.2)
    due (Silent id) h =
        let e = silent_has_end id h.1 h.0 in
        none id (has_ended id e.0 e.1 e.2)
    due (Retry born) h = h
    due (KeptOver born) h = h
    due PoolTurn h = h

  -- an endpoint whose silence has ended takes part in a call
  ended_in_call : (id : List ℕ) (r : Registration) (m : ℕ) → fin.get live id ≡ Some r
      → end_at times live legs id ≡ Some m → IsInCall calls id
  ended_in_call id r m there end =
      by_place (legs_of calls id) 0 (IsInCall calls id)
      (λ none. some_none (sym end ∙ (end_there id r there
      ∙ ap (λ (n : ℕ). end_of times n r) none)))
      (λ differ. omega (arith, differ))

  -- what is due of an endpoint whose silence has ended
  ended_at : (r : Registration) (m : ℕ) → fin.get live r.identifier ≡ Some r
      → end_at times live legs r.identifier ≡ Some m → m ≤ now
      → MatchOption (item_in_call now times r) (IsNoEndpointDue now times live calls)
      (IsEndpointItem now times live calls)
  ended_at r m there end below =
      cases (is_to_be_asked times now r) refl (is_silent times now r) refl where
        in_call : IsInCall calls r.identifier
        in_call = ended_in_call r.identifier r m there end

        passes_test : (test : Registration → Bool) → test r ≡ true
            → IsLiveAnd test live r.identifier
        passes_test test is = subst (λ w. IsSomeAnd w (λ r. IsTrue (test r))) (sym there) is

        ends_so : end_in_call times r ≡ Some m
        ends_so = sym (end_in_calls r.identifier r there in_call) ∙ end

        cases : (a : Bool) → is_to_be_asked times now r ≡ a → (s : Bool)
            → is_silent times now r ≡ s
            → MatchOption (cond a (Some (Interrogate r.identifier))
            (cond s (Some (Silent r.identifier)) None)) (IsNoEndpointDue now times live calls)
            (IsEndpointItem now times live calls)
        cases true asked s silent = (in_call, passes_test (is_to_be_asked times now) asked)
        cases false asked true silent = (in_call, passes_test (is_silent times now) silent)
        cases false asked false silent =
            absurd (ended_due times some now r m ends_so below asked silent)

  pub ended_item : (r : Registration) → fin.get live r.identifier ≡ Some r
      → HasEnded now times live legs r.identifier
      → MatchOption (item_in_call now times r) (IsNoEndpointDue now times live calls)
      (IsEndpointItem now times live calls)
  ended_item r there ended = cases (end_at times live legs r.identifier) refl ended where
    cases : (w : Option ℕ) → end_at times live legs r.identifier ≡ w
        → IsSomeAnd w (λ moment. moment ≤ now)
        → MatchOption (item_in_call now times r) (IsNoEndpointDue now times live calls)
        (IsEndpointItem now times live calls)
    cases None end h = absurd h
    cases (Some m) end h = ended_at r m there end h
