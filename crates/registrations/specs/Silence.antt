-- When the silence of an endpoint ends: an endpoint that takes part in a call and gives no sign of
-- life until then is asked for one (H.323, 8.4.2, status), a number of times in a row. If it answers
-- none of them, it counts as silent.
use Rattle.std.specs.Prelude.{◌+◌, ◌^◌, ◌≤◌, ◌&&◌, ◌||◌, ℕ, Bool, List, Option, Some, None}
use Rattle.std.specs.Prelude.{nat_eq, nat_le, nat_lt, if◌then◌else◌}
use Rattle.std.specs.Option.{IsSomeAnd, option_and_then}
use Rattle.std.specs.FinMap.{get}
use Rattle.registrations.specs.declared.registration.Registration.{Registration}
use Rattle.registrations.specs.declared.times.Times.{Times}
use Rattle.registrations.specs.Registry.{LegCounts, Live}

-- the moment that is `wait` after `since`, if that is a number of 64 bits: no moment is later
abbrev pub end_after : ℕ → ℕ → Option ℕ
end_after since wait = if nat_lt (since + wait) (2 ^ 64) then Some (since + wait) else None

-- when the silence of an endpoint in a call ends: if it wasn't asked since it was heard, the time
-- `silence` after it was heard; else the time `ask_wait` after it was asked, unless it was asked
-- more than `asks` times
abbrev pub end_in_call : Times → Registration → Option ℕ
end_in_call times r =
    if nat_eq r.tries 0 then end_after r.heard times.silence
    else if nat_le r.tries times.asks then end_after r.asked times.ask_wait else None

-- the same for an endpoint with this many legs: without a leg it may be silent for ever
abbrev pub end_of : Times → ℕ → Registration → Option ℕ
end_of times legs r = if nat_eq legs 0 then None else end_in_call times r

-- when the silence of the endpoint with this identifier ends
abbrev pub end_at : Times → Live → LegCounts → List ℕ → Option ℕ
end_at times live legs id =
    option_and_then (λ r. option_and_then (λ n. end_of times n r) (get legs id)) (get live id)

-- its silence has ended
abbrev pub HasEnded : ℕ → Times → Live → LegCounts → List ℕ → Type 0
HasEnded now times live legs id = IsSomeAnd (end_at times live legs id) (λ moment. moment ≤ now)

-- nothing was heard for some time, and it wasn't asked since
abbrev pub is_unheard : Times → ℕ → Registration → Bool
is_unheard times now r = nat_eq r.tries 0 && nat_le (r.heard + times.silence) now

-- it was asked, and the time for an answer is over
abbrev pub is_unanswered : Times → ℕ → Registration → Bool
is_unanswered times now r = nat_le (r.asked + times.ask_wait) now

-- it may be asked once more
abbrev pub is_asked_less : Times → Registration → Bool
is_asked_less times r = nat_le 1 r.tries && nat_lt r.tries times.asks

-- if it is in a call, it is to be asked for a sign of life
abbrev pub is_to_be_asked : Times → ℕ → Registration → Bool
is_to_be_asked times now r =
    is_unheard times now r || is_asked_less times r && is_unanswered times now r

-- it was interrogated `asks` times and gave no sign of life
abbrev pub is_silent : Times → ℕ → Registration → Bool
is_silent times now r = nat_eq r.tries times.asks && is_unanswered times now r
