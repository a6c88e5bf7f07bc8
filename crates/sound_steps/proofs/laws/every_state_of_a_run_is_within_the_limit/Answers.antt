use Rattle.sound_steps.proofs.Along.{run_is_sound, run_is_within_limit}
use Rattle.sound_steps.proofs.laws.every_state_of_a_run_is_within_the_limit.Goals as goal

pub returns-clause-sound : goal.returns-clause-sound
returns-clause-sound c = run_is_sound

pub returns-clause-limit : goal.returns-clause-limit
returns-clause-limit c = run_is_within_limit
