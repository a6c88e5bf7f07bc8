-- What the worker of the timers does at a tick: all of it, from how it stood before.
use Rattle.std.specs.Prelude.{◌≡◌, ◌<◌, ◌+◌, ◌∷◌, ◌⊎◌, ℕ, List, [], Bool, false, length, not, true}
use Rattle.std.specs.Prelude.{None, Some}
use Rattle.std.specs.List.{AllPass}
use Rattle.zone_events.specs.declared.event.Event.TheVariants as event
use Rattle.ras_machine.specs.State.{State}
use Rattle.ras_core.specs.declared.fault.StepFault.TheVariants as step_fault
use Rattle.zone_lock.specs.declared.turns.TurnsEnd.{TurnsEnd}
use Rattle.zone_lock.specs.declared.turns.TurnsEnd.TheVariants as turns_end
use Rattle.udp_server.specs.declared.plan.Plan.{Plan}
use Rattle.udp_server.specs.declared.worker.StepResult.{StepResult}
use Rattle.udp_server.specs.declared.worker.StepResult.TheVariants as result
use Rattle.udp_server.specs.LatestChapters.{IsChapterDue, IsEndedIfDue, Kept}
use Rattle.udp_server.specs.Working.{CameOf, CameOfTurns, IsRecordedAs, IsRefusalCounted}
use Rattle.udp_server.specs.Working.{IsTold, Standing}

-- What a worker may do several times at one tick, a round: turns while it holds the lock, or one
-- turn that is recorded. What came of it, and how the worker stood before and after, with the
-- chapters that it keeps if it records its turns.
abbrev pub Round : Type 0 → Type 0 → Type 1
Round Came At = Came → At → At → Type 0

-- rounds were made one after the other; what came of each, the last one first
abbrev pub AreRounds : {Came At : Type 0} → Round Came At → List Came → At → At → Type 0
AreRounds round [] old new = new ≡ old
AreRounds {Came} {At} round (came ∷ before) old new =
    (mid : At) × AreRounds round before old mid × round came mid new

-- All that a worker does at a tick, from how it stood before to how it stands then: rounds, at
-- least one and at most `most`. After each but the last one more may have been due. After the last
-- one more may be due only if `most` were made. The worker goes on or not by what came of the last.
pub record IsTick {Came At : Type 0} (round : Round Came At) (most : ℕ)
    (is_more goes_on_after : Came → Bool) (goes_on : Bool) (old new : At) : Type 0 where
  pub last : Came
  pub before : List Came
  pub rounds : AreRounds round (last ∷ before) old new
  pub busy : AllPass is_more before
  pub few : length before < most
  pub until : is_more last ≡ true → length before + 1 ≡ most
  pub end : goes_on ≡ goes_on_after last

-- a round of turns of which nothing is recorded, at most `most`, at a moment that a clock told
abbrev pub AreTurnsOfRound : {C : Type 0} → State → (C → ℕ → C → Type 0) → ℕ
    → Round TurnsEnd Standing
AreTurnsOfRound {C} opened tells most why old new =
    (clock : C) × CameOfTurns opened (IsTold tells clock) most why old new

-- whether a worker goes on after turns that ended so: it ends only if no step is made any more
abbrev pub goes_on_after_turns : TurnsEnd → Bool
goes_on_after_turns turns_end.Idle = true
goes_on_after_turns turns_end.More = true
goes_on_after_turns (turns_end.Refused step_fault.Memory) = true
goes_on_after_turns (turns_end.Refused step_fault.Closed) = false

-- whether more turns may be due after some that ended so
abbrev pub is_more_due : TurnsEnd → Bool
is_more_due turns_end.Idle = false
is_more_due turns_end.More = true
is_more_due (turns_end.Refused why) = false

-- how a worker stands that records its turns, and the chapters that it keeps
pub record Recording : Type 0 where
  pub worker : Standing
  pub chapters : Kept

abbrev pub recording : Standing → Kept → Recording
recording worker chapters = record { worker = worker; chapters = chapters }

-- A chapter was due, and none ended; that is counted.
pub record IsChapterRefused (plan : Plan) (place : ℕ) (old new : Recording) : Type 0 where
  pub due : IsChapterDue plan.chapter old.chapters.first place
  pub counted : IsRefusalCounted old.worker new.worker
  pub latest : new.chapters.latest ≡ old.chapters.latest
  pub first : new.chapters.first ≡ old.chapters.first

-- What comes behind a turn that is the entry at this place: a chapter ends if one is due by the plan,
-- and the worker stands as before; or one was due and didn't end, and that is counted.
abbrev pub IsTriedBehind : State → Plan → ℕ → Recording → Recording → Type 0
IsTriedBehind opened plan place old new =
    (IsEndedIfDue opened plan place old.chapters new.chapters × (new.worker ≡ old.worker))
    ⊎ IsChapterRefused plan place old new

-- What comes behind a turn of which this came: a chapter may be due if it is an entry at a place.
abbrev pub IsChapterTried : State → Plan → StepResult → Recording → Recording → Type 0
IsChapterTried opened plan (result.Made (Some place) is_idle) old new =
    IsTriedBehind opened plan place old new
IsChapterTried opened plan (result.Made None is_idle) old new = new ≡ old
IsChapterTried opened plan result.Refused old new = new ≡ old
IsChapterTried opened plan result.Closed old new = new ≡ old

-- A round of one turn, at a moment that a clock told, which is recorded, and of the chapter that
-- may be due behind it.
pub record IsTurnOfRound {C : Type 0} (opened : State) (tells : C → ℕ → C → Type 0) (plan : Plan)
    (came : StepResult) (old new : Recording) : Type 0 where
  pub clock : C
  pub moment : ℕ
  pub then : Standing
  pub told : IsTold tells clock moment
  pub made : CameOf opened (event.Turn moment) came old.worker then
  pub recorded : IsRecordedAs true came
  pub chapter : IsChapterTried opened plan came (recording then old.chapters) new

-- whether more turns may be due after one of which this came
abbrev pub is_more_due_after : StepResult → Bool
is_more_due_after (result.Made place is_idle) = not is_idle
is_more_due_after result.Refused = false
is_more_due_after result.Closed = false
