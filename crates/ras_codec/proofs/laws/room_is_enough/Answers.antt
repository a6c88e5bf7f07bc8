use Rattle.ras_writing.proofs.Rooms.{room_enough}
use Rattle.ras_codec.proofs.laws.room_is_enough.Goals as goal

pub returns : goal.returns
returns c = room_enough
