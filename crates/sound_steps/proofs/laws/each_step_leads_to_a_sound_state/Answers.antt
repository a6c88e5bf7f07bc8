use Rattle.sound_steps.proofs.Steps.{change_is_sound}
use Rattle.sound_steps.proofs.laws.each_step_leads_to_a_sound_state.Goals as goal

pub returns : goal.returns
returns c = change_is_sound
