-- What a recorded event called for, by the choices that its outcome shows.
use Rattle.std.specs.Prelude.{ℕ, ◌≡◌, Option, None, Some}
use Rattle.zone_events.specs.declared.event.Event.{Event}
use Rattle.zone_events.specs.declared.outcome.Outcome.{Outcome}
use Rattle.ras_machine.specs.declared.course.Course as code
use Rattle.ras_machine.specs.State.{State}
use Rattle.ras_machine.specs.Machine.{course_at, course_ending}
use Rattle.ras_machine.specs.Courses.{CallsFor, IsReady}
use Rattle.ras_machine.specs.Steps.{IsAllowed, choices_of}

-- a course of the code is what the event called for, and what was chosen for it so far may be
-- chosen
pub record IsShown (s : State) (now : ℕ) (event : Event) (outcome : Outcome) (called : code.Course)
    : Type 0 where
  pub calls : CallsFor s now (course_at s now event (choices_of outcome)) called
  pub ready : IsReady s now (course_at s now event (choices_of outcome))

-- no step of this event has this outcome
abbrev pub CannotBeChosen : State → ℕ → Event → Outcome → Type 0
CannotBeChosen s now event outcome = (after : State)
    → IsAllowed s now (course_at s now event (choices_of outcome)) (choices_of outcome)
    → course_ending s now (course_at s now event (choices_of outcome)) (choices_of outcome)
    ≡ Some (outcome, after) → ⊥

-- the course is found, or there is none
abbrev pub IsFound : State → ℕ → Event → Outcome → Option code.Course → Type 0
IsFound s now event outcome None = CannotBeChosen s now event outcome
IsFound s now event outcome (Some called) = IsShown s now event outcome called
