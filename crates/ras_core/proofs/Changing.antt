-- A step of a zone, be it of an event or of a pool that takes the place of another one, is one of
-- its machine, and leads to a sound state.
use Rattle.zone_events.specs.declared.change.Change.{Change}
use Rattle.zone_events.specs.declared.change.Change.TheVariants as change
use Rattle.zone_events.specs.declared.outcome.Outcome.{Outcome}
use Rattle.ras_machine.specs.Soundness.{Sound}
use Rattle.ras_core.specs.Running.{Running}
use Rattle.ras_core.specs.Runs.{ChangeStep, RunningChange}

pub step_of : (old : Running) (what : Change) (outcome : Outcome) (new : Running)
    → RunningChange old what outcome new → ChangeStep old.state what outcome new.state
step_of old (change.Event event) outcome new step = step.step
step_of old (change.PoolChange replacement) outcome new step = step.step

pub sound_after : (old : Running) (what : Change) (outcome : Outcome) (new : Running)
    → RunningChange old what outcome new → Sound new.state
sound_after old (change.Event event) outcome new step = step.sound
sound_after old (change.PoolChange replacement) outcome new step = step.sound
