-- Turns that are made one after the other by whoever holds the lock.
use Rattle.std.specs.Prelude.{◌≡◌, ◌≢◌, ◌≤◌, ◌↔◌, ◌++◌, ◌∷◌, [], ℕ, List, All, length}
use Rattle.std.specs.Prelude.{None, option_to_list}
use Rattle.zone_events.specs.declared.change.Change.{Change}
use Rattle.zone_events.specs.declared.change.Change.TheVariants as change
use Rattle.zone_events.specs.declared.event.Event.TheVariants as event
use Rattle.zone_events.specs.declared.outcome.Datagram.{Datagram}
use Rattle.zone_events.specs.declared.outcome.Note.TheVariants as note
use Rattle.zone_events.specs.declared.outcome.Outcome.{Outcome}
use Rattle.ras_machine.specs.State.{State}
use Rattle.ras_machine.specs.Machine.{most_steps}
use Rattle.ras_core.specs.Runs.{RunningChange}
use Rattle.ras_core.specs.declared.fault.StepFault.TheVariants as fault
use Rattle.zone_lock.specs.Held.{Held, IsEntered, IsKept, entry_by}
use Rattle.zone_lock.specs.Seats.{Seated, seated_after}
use Rattle.zone_view.specs.Counts.{with_step}
use Rattle.zone_view.specs.StepCounts.{counts_of}
use Rattle.zone_lock.specs.declared.turns.TurnsEnd.{TurnsEnd}
use Rattle.zone_lock.specs.declared.turns.TurnsEnd.TheVariants as end

-- a turn at this moment
abbrev pub turn_at : ℕ → Change
turn_at moment = change.Event (event.Turn moment)

-- what is sent by steps with these outcomes, in order
abbrev pub sent_of : List Outcome → List Datagram
sent_of [] = []
sent_of (o ∷ os) = option_to_list o.output ++ sent_of os

-- the seat that made turns with these outcomes
abbrev pub seated_after_turns : Seated → ℕ → List Outcome → Seated
seated_after_turns seat moment [] = seat
seated_after_turns seat moment (o ∷ os) =
    seated_after_turns (seated_after seat (turn_at moment) o) moment os

-- A seat made turns at this moment, one after the other, with these outcomes. Each is one step, and
-- its entry stands behind those before it.
abbrev pub AreTurns : State → Seated → ℕ → Held → List Outcome → Held → Type 0
AreTurns opened seat moment old [] new = new ≡ old
AreTurns opened seat moment old (o ∷ os) new = (mid : Held)
    × RunningChange old.zone (turn_at moment) o mid.zone
    × IsEntered opened old (entry_by seat.number seat.calls (turn_at moment) o) mid
    × AreTurns opened (seated_after seat (turn_at moment) o) moment mid os new

-- what was counted, with what is counted of turns with these outcomes
abbrev pub counts_after : List ℕ → List Outcome → List ℕ
counts_after counts [] = counts
counts_after counts (o ∷ os) = counts_after (with_step (counts_of None o) counts) os

-- in each of these turns something was due
abbrev pub AreBusy : List Outcome → Type 0
AreBusy outcomes = All (λ o. o.note ≢ note.Idle) outcomes

-- Why no further turn was made: nothing was due in the last one, but in each before it; as many
-- were made as were wanted; or the next one was refused.
abbrev pub IsEndOf : TurnsEnd → ℕ → List Outcome → Held → Type 0
IsEndOf end.Idle most outcomes new = (busy : List Outcome) × (last : Outcome)
    × (outcomes ≡ busy ++ last ∷ []) × AreBusy busy × (last.note ≡ note.Idle)
IsEndOf end.More most outcomes new = AreBusy outcomes × (length outcomes ≡ most)
IsEndOf (end.Refused why) most outcomes new = AreBusy outcomes
    × ((why ≡ fault.Closed) ↔ (new.zone.state.steps ≡ most_steps))

-- Turns of a seat, at most `most`, with what they send and why there are no more. What is counted
-- of them is added to the counts.
pub record AreTurnsMade (opened : State) (seat : Seated) (moment most : ℕ) (old : Held)
    (sent : List Datagram) (why : TurnsEnd) (new : Held) (seat_then : Seated)
    (counts counts_then : List ℕ) : Type 0 where
  pub outcomes : List Outcome
  pub turns : AreTurns opened seat moment old outcomes new
  pub sent_are : sent ≡ sent_of outcomes
  pub few : length outcomes ≤ most
  pub ended : IsEndOf why most outcomes new
  pub seat_is : seat_then ≡ seated_after_turns seat moment outcomes
  pub counted : counts_then ≡ counts_after counts outcomes

-- the same of whoever waited for a lock
pub record AreTurnsUnderLock (opened : State) (seat : Seated) (moment most : ℕ)
    (sent : List Datagram) (why : TurnsEnd) (seat_then : Seated) (counts counts_then : List ℕ)
    : Type 0 where
  pub old : Held
  pub new : Held
  pub before : IsKept opened old
  pub after : IsKept opened new
  pub made : AreTurnsMade opened seat moment most old sent why new seat_then counts counts_then
