use Rattle.recording.proofs.WholeZones.{read_again}
use Rattle.recording.proofs.laws.zone_lines_are_read_again.Goals as goal

pub returns : goal.returns
returns c = read_again
