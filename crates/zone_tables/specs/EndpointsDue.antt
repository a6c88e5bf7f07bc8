-- What is due of an endpoint that takes part in a call. If it is silent, it is asked for a sign of
-- life by an InfoRequest, a number of times in a row (H.323, 8.4.2, status). If no answer comes, it
-- loses its legs and stays registered.
use Rattle.std.specs.Prelude.{◌≤◌, ℕ, Bool, List, Option, Some, None, IsTrue, if◌then◌else◌}
use Rattle.std.specs.Option.{IsSomeAnd}
use Rattle.std.specs.FinMap.{get}
use Rattle.admission.specs.Calls.{OpenCalls, legs_of}
use Rattle.registrations.specs.Registry.{Live}
use Rattle.registrations.specs.Silence.{is_silent, is_to_be_asked}
use Rattle.registrations.specs.declared.registration.Registration.{Registration}
use Rattle.registrations.specs.declared.times.Times.{Times}
use Rattle.zone_events.specs.declared.due_item.DueItem.{DueItem}
use Rattle.zone_events.specs.declared.due_item.DueItem.TheVariants.{Interrogate, Silent}

-- an endpoint with this identifier is registered and passes a test
abbrev pub IsLiveAnd : (Registration → Bool) → Live → List ℕ → Type 0
IsLiveAnd test live id = IsSomeAnd (get live id) (λ r. IsTrue (test r))

-- it takes part in a call
abbrev pub IsInCall : OpenCalls → List ℕ → Type 0
IsInCall calls id = 1 ≤ legs_of calls id

-- what is due of an endpoint if it takes part in a call
abbrev pub item_in_call : ℕ → Times → Registration → Option DueItem
item_in_call now times r =
    if is_to_be_asked times now r then Some (Interrogate r.identifier)
    else if is_silent times now r then Some (Silent r.identifier) else None

-- this is due of an endpoint that takes part in a call
abbrev pub IsEndpointItem : ℕ → Times → Live → OpenCalls → DueItem → Type 0
IsEndpointItem now times live calls (Interrogate id) =
    IsInCall calls id × IsLiveAnd (is_to_be_asked times now) live id
IsEndpointItem now times live calls (Silent id) =
    IsInCall calls id × IsLiveAnd (is_silent times now) live id
IsEndpointItem now times live calls other = ⊥

-- nothing is due of any endpoint that takes part in a call
abbrev pub IsNoEndpointDue : ℕ → Times → Live → OpenCalls → Type 0
IsNoEndpointDue now times live calls =
    (item : DueItem) → IsEndpointItem now times live calls item → ⊥
