use Rattle.sound_steps.proofs.Clocks.{between_sound_states}
use Rattle.sound_steps.proofs.laws.every_state_between_two_sound_ones_is_within_the_limit.Goals as goal

pub returns : goal.returns
returns c = between_sound_states
