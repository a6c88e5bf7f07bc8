-- Fresh pools are offered one after the other, as the events name them.
use Rattle.std.proofs.Common.{◌≡◌, ℕ, ◌+◌, ◌<◌, List, [], ◌∷◌, ◌++◌, take, length, get_or, ap, refl}
use Rattle.std.proofs.Common.{sym, ◌∙◌, Some, None, append-nil}
use Rattle.std.proofs.lemmas.List.{take_more}
use Rattle.std.proofs.lemmas.List.Elements.{filter_map-append}
use Rattle.pools.specs.Account.{Account}
use Rattle.pools.specs.declared.pool_spec.PoolSpec.{PoolSpec}
use Rattle.zone_events.specs.declared.event.Event.{Event as Happens}
use Rattle.script.specs.Deeds.{Handle, Offer, deeds_of}
use Rattle.script.specs.declared.event.Replacement.{Replacement}
use Rattle.script.specs.declared.event.ScriptEvent.{ScriptEvent}
use Rattle.script.specs.declared.event.ScriptEvent.TheVariants.{Event, Replace}
use Rattle.script.specs.Events.{fresh_pool_in, fresh_pools}

one_named : (event : ScriptEvent) (spec : PoolSpec) → fresh_pool_in event ≡ Some spec
    → fresh_pools (event ∷ []) ≡ spec ∷ []
one_named (Event event) spec named = absurd (cc named)
one_named (Replace replacement) spec named = cc named

none_named : (event : ScriptEvent) → fresh_pool_in event ≡ None → fresh_pools (event ∷ []) ≡ []
none_named (Event event) named = refl
none_named (Replace replacement) named = absurd (cc named)

events_more : (events : List ScriptEvent) (i : ℕ) (event : ScriptEvent) → i < length events
    → event ≡ get_or events i event
    → fresh_pools (take (i + 1) events) ≡ fresh_pools (take i events) ++ fresh_pools (event ∷ [])
events_more events i event below is =
    ap fresh_pools (take_more events i event below
    ∙ ap (λ (e : ScriptEvent). take i events ++ e ∷ []) (sym is))
    ∙ filter_map-append fresh_pool_in (take i events) (event ∷ [])

-- the pools that events name so far, with that of the next one, if it names one
pub pool_named : (events : List ScriptEvent) (i : ℕ) (event : ScriptEvent) (spec : PoolSpec)
    → i < length events → event ≡ get_or events i event → fresh_pool_in event ≡ Some spec
    → fresh_pools (take (i + 1) events) ≡ fresh_pools (take i events) ++ spec ∷ []
pool_named events i event spec below is named =
    events_more events i event below is
    ∙ ap (λ (specs : List PoolSpec). fresh_pools (take i events) ++ specs)
    (one_named event spec named)

pub no_pool_named : (events : List ScriptEvent) (i : ℕ) (event : ScriptEvent)
    → i < length events → event ≡ get_or events i event → fresh_pool_in event ≡ None
    → fresh_pools (take (i + 1) events) ≡ fresh_pools (take i events)
no_pool_named events i event below is named =
    events_more events i event below is
    ∙ ap (λ (specs : List PoolSpec). fresh_pools (take i events) ++ specs)
    (none_named event named)
    ∙ append-nil (fresh_pools (take i events))

module _ (left after : List ScriptEvent) (event : ScriptEvent) (is : left ≡ event ∷ after) where
  pub event_next : (rest after_rest : List Account) (what : Happens) → event ≡ Event what
      → after_rest ≡ rest → deeds_of left rest ≡ Handle what ∷ deeds_of after after_rest
  event_next rest after_rest what kind same =
      ap (λ (es : List ScriptEvent). deeds_of es rest)
      (is ∙ ap (λ (e : ScriptEvent). e ∷ after) kind)
      ∙ ap (λ (pools : List Account). Handle what ∷ deeds_of after pools) (sym same)

  pub offer_next : (rest after_rest : List Account) (pool : Account) (replacement : Replacement)
      → event ≡ Replace replacement → rest ≡ pool ∷ after_rest
      → deeds_of left rest ≡ Offer replacement pool ∷ deeds_of after after_rest
  offer_next rest after_rest pool replacement kind first =
      ap (λ (es : List ScriptEvent). deeds_of es rest)
      (is ∙ ap (λ (e : ScriptEvent). e ∷ after) kind)
      ∙ ap (λ (pools : List Account). deeds_of (Replace replacement ∷ after) pools) first

  pub none_left_less : (what : Happens) → event ≡ Event what → fresh_pools left ≡ fresh_pools after
  none_left_less what kind = ap fresh_pools (is ∙ ap (λ (e : ScriptEvent). e ∷ after) kind)

  pub one_left_less : (replacement : Replacement) → event ≡ Replace replacement
      → fresh_pools left ≡ replacement.fresh ∷ fresh_pools after
  one_left_less replacement kind = ap fresh_pools (is ∙ ap (λ (e : ScriptEvent). e ∷ after) kind)
